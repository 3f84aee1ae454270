-- Each kind of answer is right by what the session has seen.
use Rattle.std.proofs.Common.{◌≡◌, ℕ, ◌+◌, ◌≤◌, List, [], ◌++◌, length, Option, Some, None, refl, ap, sym, subst, ◌∙◌, arith, append-nil, length-append}
use Rattle.std.proofs.lemmas.List.{length-map}
use Rattle.lg_gram.specs.declared.edit.EditRefusal.{EditRefusal}
use Rattle.lg_gram.specs.declared.listing.Bound.{Bound}
use Rattle.lg_gram.specs.declared.listing.Page.{Page}
use Rattle.lg_gram.specs.declared.listing.Stats.{Stats}
use Rattle.lg_gram.specs.declared.listing.Token.{Token}
use Rattle.lg_gram.specs.declared.reply.Place.{Place}
use Rattle.lg_gram.specs.declared.reply.Reply.{Reply}
use Rattle.lg_gram.specs.declared.reply.Reply.TheVariants.{Listed, Beyond, Refused, At, NoListing}
use Rattle.lg_dict.specs.Dictionary.{Dictionary}
use Rattle.lg_edit.specs.Edits.{EditView, accept}
use Rattle.lg_token.specs.Bounds.{AreListed, IsBeyond}
use Rattle.lg_script.specs.Commands.{CommandView, goes_on, makes, asks}
use Rattle.lg_script.specs.Histories.{version_of, reply_version, unknown_name}
use Rattle.lg_core.specs.declared.event.Event.{Event}
use Rattle.lg_core.specs.declared.event.Event.TheVariants.{Look}
use Rattle.lg_core.specs.declared.note.NoteKind.TheVariants as noted
use Rattle.lg_core.specs.declared.state.Actor.{Actor}
use Rattle.lg_core.specs.declared.state.Hold.{Hold}
use Rattle.lg_core.specs.Core as happens
use Rattle.lg_core.specs.Core.{sentence_of, Happens, ended, note_of}
use Rattle.lg_session.specs.declared.session.Session.{Session}
use Rattle.lg_session.specs.Answering.{later, Stays, AnswersSo, ending, IsAnswered, GivesNextPage}
use Rattle.lg_script.specs.Codes.{place_of}
use Rattle.lg_session.specs.Engines.{Meaning, Progress, start_of, moved, IsOpened, GoesOn}
use Rattle.lg_session.specs.Legal as legal
use Rattle.lg_session.specs.Legal.{Holding, AsksFor, AnswerIs}
use Rattle.lg_session.specs.Paths as paths
use Rattle.lg_session.specs.Paths.{known, HeldAs, Tells}
use Rattle.lg_session.specs.Turns.{Story, run_in, journal_in, place_in, HoldsSo, HasCome, IsTimely}
use Rattle.lg_session.proofs.Ending as actors_of
use Rattle.lg_session.proofs.Ending.{nothing_held, listing_held}
use Rattle.lg_session.proofs.Versions.{version_more, version_newest}

-- what asks for a listing looks
looks_asked : (command : CommandView) (text : List ℕ) (first : ℕ) (want : Option ℕ) (session : ℕ) → AsksFor command text first want → (Look session ≡ ending command session) × (sentence_of command ≡ Some text)
looks_asked command text first want session (legal.parse t) = (refl, refl)
looks_asked command text first want session (legal.list f w t) = (refl, refl)

module _ {H : Type 0} (Stands : H → Dictionary → Progress → Type 0) where
  -- what is held stands for the same listing where the journal grows
  pub holds_on : (story : Story) (then : Option Holding) (limit : ℕ) (journal new more : List Place) (held : Option (ℕ × H)) (h : Option Holding) → story.limit ≤ limit → new ≡ journal ++ more
      → HoldsSo Stands story journal held h → HoldsSo Stands (record story { holding = then; limit = limit }) new held h
  holds_on story then limit journal new more None None low is holds = tt
  holds_on story then limit journal new more None (Some h) low is holds = absurd holds
  holds_on story then limit journal new more (Some held) None low is holds = absurd holds
  holds_on story then limit journal new more (Some held) (Some h) low is holds = record {
    version = holds.version;
    there = omega (arith, holds.there, ap length is, length-append journal more);
    stands = subst (λ (dict : Dictionary). Stands held.1 dict h.progress) (sym (ap (λ (l : List Place). version_of story.scripts story.base l h.version) is ∙ version_more story.scripts story.base journal more h.version holds.there)) holds.stands;
    near = omega (arith, holds.near, low);
  }

  -- what is held is as good after a turn that saw no more
  still_held : (story : Story) (then : Option Holding) (journal : List Place) (held : Option (ℕ × H)) (h : Option Holding) → HoldsSo Stands story journal held h → HoldsSo Stands (later story then) journal held h
  still_held story then journal held h holds = holds_on story then (story.limit + 2000000) journal journal [] held h (omega arith) (sym (append-nil journal)) holds

  -- the dictionary of a session is the newest version
  pub newest_version : (story : Story) (session : Session H) (n : ℕ) → n ≡ length session.pass.seen → HasCome Stands story session → session.view ≡ version_of story.scripts story.base (journal_in story session) n
  newest_version story session n is come =
      let journal : List Place = journal_in story session in
      let all : n ≡ length journal = is ∙ sym (length-map session.pass.seen (place_of story.scripts)) in
      come.newest ∙ sym (version_newest story.scripts story.base journal) ∙ ap (version_of story.scripts story.base journal) (sym all)

  module _ (meaning : Meaning) (session : Session H) where
    same : (held : Option (ℕ × H)) → Stays session (record session { held = held })
    same held = record { session = refl; place = refl; pass = refl; view = refl }

    -- ---- the version, and edits that are refused

    pub at_version : (n : ℕ) → n ≡ length session.pass.seen → IsAnswered meaning Stands session asks (session, At n)
    at_version n is = record {
      stays = same session.held;
      unpublished = λ p. refl;
      answers = λ story come. record {
        then = story.holding;
        come = record { newest = come.newest; holds = still_held story story.holding (journal_in story session) session.held story.holding come.holds };
        answer = legal.version story.holding n;
        timely = is;
      };
      steps = λ scripts base actors at st.
          let a : Actor = st.actor in
          let seen : a.seen ≡ n = st.seen ∙ sym is in
          actors_of.ends_with scripts base session actors st asks session.held a.held a.seen noted.At (At n)
          (happens.tells session.session a (actors_of.at_end scripts base session actors st asks at)) (subst (λ (k : ℕ). Tells (At k) a.seen noted.At) seen (paths.version a.seen)) st.held;
    }

    pub is_refused : (edit : EditView) (n : ℕ) (cause : EditRefusal) (name : List ℕ) → n ≡ length session.pass.seen → accept session.view edit ≡ Some cause → name ≡ unknown_name edit cause
        → IsAnswered meaning Stands session (makes edit) (session, Refused n cause name)
    is_refused edit n cause name is refused named = record {
      stays = same session.held;
      unpublished = λ p. refl;
      answers = λ story come. record {
        then = story.holding;
        come = record { newest = come.newest; holds = still_held story story.holding (journal_in story session) session.held story.holding come.holds };
        answer = legal.refused story.holding edit n cause name (record {
          refused = ap (λ (dict : Dictionary). accept dict edit) (sym (newest_version story session n is come)) ∙ refused;
          named = named;
        });
        timely = is;
      };
      steps = λ scripts base actors at st.
          let a : Actor = st.actor in
          let seen : a.seen ≡ n = st.seen ∙ sym is in
          actors_of.ends_with scripts base session actors st (makes edit) session.held a.held a.seen (noted.Refused cause) (Refused n cause name)
          (happens.refuses session.session a edit cause (actors_of.at_end scripts base session actors st (makes edit) at) (ap (λ (d : Dictionary). accept d edit) (actors_of.sees scripts base session actors st) ∙ refused))
          (subst (λ (k : ℕ). Tells (Refused k cause name) a.seen (noted.Refused cause)) seen (paths.refused a.seen cause name)) st.held;
    }

    -- ---- listings

    timely_asked : (command : CommandView) (text : List ℕ) (first : ℕ) (want : Option ℕ) (reply : Reply) (n : ℕ) → AsksFor command text first want → reply_version reply ≡ n → IsTimely command reply n
    timely_asked command text first want reply n (legal.parse t) is = is
    timely_asked command text first want reply n (legal.list f w t) is = is

    pub listed : (command : CommandView) (text : List ℕ) (first : ℕ) (want : Option ℕ) (n : ℕ) (held : H) (tokens : List Token) (page : Page) (stats : Stats) → AsksFor command text first want → n ≡ length session.pass.seen
        → IsOpened meaning Stands session.view (start_of text want tokens first) held page stats
        → IsAnswered meaning Stands session command (record session { held = Some (n, held) }, Listed n tokens page (Some stats))
    listed command text first want n held tokens page stats asked is opened =
        let start : Progress = start_of text want tokens first in record {
          stays = same (Some (n, held));
          unpublished = λ p. refl;
          answers = λ story come.
              let here = newest_version story session n is come in record {
                then = Some (record { version = n; progress = moved start page });
                come = record {
                  newest = come.newest;
                  holds = record {
                    version = refl;
                    there = omega (arith, is, length-map session.pass.seen (place_of story.scripts));
                    stands = subst (λ (dict : Dictionary). Stands held dict (moved start page)) here opened.stands;
                    near = omega (arith, opened.near);
                  };
                };
                answer = legal.listed story.holding command text first want n tokens page stats asked
                    (subst (λ (dict : Dictionary). AreListed dict text tokens) here opened.tokenized)
                    (subst (λ (dict : Dictionary). meaning.shows dict start page) here opened.shows)
                    (subst (λ (dict : Dictionary). meaning.counts dict text stats) here opened.counts);
                timely = timely_asked command text first want (Listed n tokens page (Some stats)) (length session.pass.seen) asked is;
              };
          steps = λ scripts base actors at st.
              let a : Actor = st.actor in
              let seen : a.seen ≡ n = st.seen ∙ sym is in
              let asks_so = looks_asked command text first want session.session asked in
              let hold : Option Hold = Some (record { version = a.seen; command = a.place + 1; mores = 0 }) in
              let tokenized : AreListed (happens.seen_by scripts base (known session.pass actors) a) text tokens = subst (λ (d : Dictionary). AreListed d text tokens) (sym (actors_of.sees scripts base session actors st)) opened.tokenized in
              actors_of.ends_with scripts base session actors st command (Some (n, held)) hold a.seen noted.Listed (Listed n tokens page (Some stats))
              (subst (λ (event : Event). Happens scripts base (known session.pass actors) event (ended (known session.pass actors) session.session a hold) (Some (note_of session.session a a.seen noted.Listed))) asks_so.0
              (happens.begins session.session a command text tokens (actors_of.at_end scripts base session actors st command at) asks_so.1 tokenized))
              (subst (λ (k : ℕ). Tells (Listed k tokens page (Some stats)) a.seen noted.Listed) seen (paths.listed a.seen tokens page stats)) seen;
        }

    pub beyond : (command : CommandView) (text : List ℕ) (first : ℕ) (want : Option ℕ) (n : ℕ) (bound : Bound) → AsksFor command text first want → n ≡ length session.pass.seen
        → IsBeyond session.view text bound → IsAnswered meaning Stands session command (record session { held = None }, Beyond n bound)
    beyond command text first want n bound asked is passes = record {
      stays = same None;
      unpublished = λ p. refl;
      answers = λ story come. record {
        then = None;
        come = record { newest = come.newest; holds = tt };
        answer = legal.beyond story.holding command text first want n bound asked (subst (λ (dict : Dictionary). IsBeyond dict text bound) (newest_version story session n is come) passes);
        timely = timely_asked command text first want (Beyond n bound) (length session.pass.seen) asked is;
      };
      steps = λ scripts base actors at st.
          let a : Actor = st.actor in
          let seen : a.seen ≡ n = st.seen ∙ sym is in
          let asks_so = looks_asked command text first want session.session asked in
          actors_of.ends_with scripts base session actors st command None None a.seen noted.Beyond (Beyond n bound)
          (subst (λ (event : Event). Happens scripts base (known session.pass actors) event (ended (known session.pass actors) session.session a None) (Some (note_of session.session a a.seen noted.Beyond))) asks_so.0
          (happens.is_beyond session.session a command text bound (actors_of.at_end scripts base session actors st command at) asks_so.1
          (subst (λ (d : Dictionary). IsBeyond d text bound) (sym (actors_of.sees scripts base session actors st)) passes)))
          (subst (λ (k : ℕ). Tells (Beyond k bound) a.seen noted.Beyond) seen (paths.beyond a.seen bound)) tt;
    }

    gone_on : (story : Story) (n : ℕ) (held next : H) (tokens : List Token) (page : Page) (h : Option Holding) → HasCome Stands story session → story.holding ≡ h → HoldsSo Stands story (journal_in story session) (Some (n, held)) h
        → ((dict : Dictionary) (progress : Progress) → Stands held dict progress → GoesOn meaning Stands dict progress next tokens page)
        → AnswersSo meaning Stands story session goes_on (record session { held = Some (n, next) }, Listed n tokens page None)
    gone_on story n held next tokens page None come is holds goes = absurd holds
    gone_on story n held next tokens page (Some h) come is holds goes =
        let then : Holding = record h { progress = moved h.progress page } in
        let journal : List Place = journal_in story session in
        let went = goes (version_of story.scripts story.base journal h.version) h.progress holds.stands in
        let answer : AnswerIs (run_in meaning story journal) (place_in session) (Some h) goes_on (Listed h.version h.progress.tokens page None) (Some then) = legal.more h page went.shows in record {
          then = Some then;
          come = record { newest = come.newest; holds = record { version = holds.version; there = holds.there; stands = went.stands; near = omega (arith, went.near, holds.near) } };
          answer = subst (λ (z : Option Holding × ℕ × List Token). AnswerIs (run_in meaning story journal) (place_in session) z.0 goes_on (Listed z.1 z.2 page None) (Some then))
              (λ i. (sym is i, sym holds.version i, sym went.same_tokens i)) answer;
          timely = omega (arith, holds.version, holds.there, length-map session.pass.seen (place_of story.scripts));
        }

    none_held : (story : Story) (h : Option Holding) → HasCome Stands story session → story.holding ≡ h → HoldsSo Stands story (journal_in story session) None h
        → AnswersSo meaning Stands story session goes_on (record session { held = None }, NoListing)
    none_held story None come is holds = record {
      then = None;
      come = record { newest = come.newest; holds = tt };
      answer = rw is legal.no_more;
      timely = omega arith;
    }
    none_held story (Some h) come is holds = absurd holds

    -- by what is held
    pub goes_further : (held next : Option (ℕ × H)) (reply : Reply) → session.held ≡ held → GivesNextPage meaning Stands held (next, reply)
        → IsAnswered meaning Stands session goes_on (record session { held = next }, reply)
    goes_further None None NoListing is gives = record {
      stays = same None;
      unpublished = λ p. refl;
      answers = λ story come. none_held story story.holding come refl (rw is at come.holds);
      steps = λ scripts base actors at st.
          actors_of.ends_with scripts base session actors st goes_on None None 0 noted.NoListing NoListing
          (happens.has_none session.session st.actor (actors_of.next scripts base session actors st goes_on at) (nothing_held session.held st.actor.held st.held is)) paths.no_listing tt;
    }
    goes_further (Some (n, held)) (Some (m, next)) (Listed k tokens page stats) is (same_version, of_version, no_stats, goes) =
        subst (λ (z : ℕ × ℕ × Option Stats). IsAnswered meaning Stands session goes_on (record session { held = Some (z.0, next) }, Listed z.1 tokens page z.2)) (λ i. (sym same_version i, sym of_version i, sym no_stats i)) (record {
          stays = same (Some (n, next));
          unpublished = λ p. refl;
          answers = λ story come. gone_on story n held next tokens page story.holding come refl (rw is at come.holds) goes;
          steps = λ scripts base actors at st.
              let a : Actor = st.actor in
              let h = listing_held n held a.held (subst (λ (x : Option (ℕ × H)). HeldAs x a.held) is st.held) in
              actors_of.ends_with scripts base session actors st goes_on (Some (n, next)) (Some (record h.0 { mores = h.0.mores + 1 })) h.0.version (noted.Paged h.0) (Listed n tokens page None)
              (happens.pages session.session a h.0 (actors_of.next scripts base session actors st goes_on at) h.1)
              (subst (λ (k : ℕ). Tells (Listed k tokens page None) h.0.version (noted.Paged h.0)) h.2 (paths.paged h.0 tokens page)) h.2;
        })
    goes_further held next reply is gives = absurd gives
