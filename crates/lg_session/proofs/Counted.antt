-- From an answer to a turn: what was seen on the way to it.
use Rattle.std.proofs.Common.{◌≡◌, ◌==◌, ℕ, zero, suc, ◌+◌, ◌-◌, ◌≤◌, Bool, true, false, ◌||◌, eqb, eq-eqb, List, [], ◌∷◌, ◌++◌, length, Contains, Option, Some, None, slice_get, slice_set, refl, ap, sym, subst, ◌∙◌, arith, append_assoc, append-nil, length-append, true≢false, ⊎_elim}
use Rattle.std.specs.List.{list_any}
use Rattle.std.proofs.lemmas.List.{length-map, map-append}
use Rattle.std.proofs.lemmas.List.Elements.{filter-append, Contains-append_cases}
use Rattle.std.proofs.lemmas.Option.{same_Some}
use Rattle.lg_gram.specs.declared.reply.Place.{Place}
use Rattle.lg_gram.specs.declared.reply.Reply.{Reply}
use Rattle.lg_gram.specs.declared.reply.Reply.TheVariants.{Published, Refused}
use Rattle.lg_dict.specs.Dictionary.{Dictionary}
use Rattle.lg_edit.specs.Edits.{EditView, accept, after_edit}
use Rattle.lg_log.specs.Codes.{code_session, is_of}
use Rattle.lg_log.specs.Passes.{LogId, Standing, with_code, at_end}
use Rattle.lg_script.specs.Commands.{CommandView, parses, lists, goes_on, makes, asks}
use Rattle.lg_script.specs.Histories.{command_at, after_command, dictionary_after, version_of, numbered}
use Rattle.lg_core.specs.declared.event.Event.{Event}
use Rattle.lg_core.specs.declared.event.Event.TheVariants.{Look, Publish}
use Rattle.lg_core.specs.declared.note.Note.{Note}
use Rattle.lg_core.specs.declared.note.NoteKind.TheVariants as noted
use Rattle.lg_core.specs.declared.state.Actor.{Actor}
use Rattle.lg_core.specs.Core as happens
use Rattle.lg_core.specs.Core.{Happens, note_of}
use Rattle.lg_session.specs.declared.session.Session.{Session}
use Rattle.lg_session.specs.Answering.{IsUp, IsAnswered, IsMade, Answers, counted, ending}
use Rattle.lg_script.specs.Codes.{place_of, places_of, code_after}
use Rattle.lg_session.specs.Engines.{Meaning, Progress}
use Rattle.lg_session.specs.Learning.{Known, Learns, MeetsEnd, Accepts, Publishes}
use Rattle.lg_session.specs.Legal as legal
use Rattle.lg_session.specs.Legal.{AnswerIs}
use Rattle.lg_session.specs.Paths as paths
use Rattle.lg_session.specs.Paths.{known, HeldAs, Path, StandsFor, Tells}
use Rattle.lg_session.specs.Turns.{Story, run_in, journal_in, place_in, IsAt, HasCome, added, LooksFor, Grows, Turned}
use Rattle.lg_session.proofs.Answered.{holds_on, is_refused}
use Rattle.lg_session.proofs.Elsewhere.{own_in, others_elsewhere, own_here, own_stands}
use Rattle.lg_session.proofs.Learned.{after_append}
use Rattle.lg_session.proofs.Ending as actors_of
use Rattle.lg_session.proofs.Replayed.{get_set}
use Rattle.lg_session.proofs.Versions.{version_more, version_newest, after_push, numbered_push}
use Rattle.lg_session.proofs.Walked as ways
use Rattle.lg_session.proofs.Walked.{LeavesIt}

abbrev pub is_more : CommandView → Bool
is_more goes_on = true
is_more _ = false

looks_for : (command : CommandView) (reply : Reply) (before after : Standing) → is_more command ≡ false → MeetsEnd before after → LooksFor command reply before after
looks_for goes_on reply before after not_more meets = absurd (true≢false not_more)
looks_for command (Published version) before after not_more meets = tt
looks_for command reply before after not_more meets = (meets.looked, meets.last)

looks_at : (command : CommandView) (session : ℕ) → is_more command ≡ false → ending command session ≡ Look session
looks_at goes_on session not_more = absurd (true≢false not_more)
looks_at (parses text) session not_more = refl
looks_at (lists first want text) session not_more = refl
looks_at (makes edit) session not_more = refl
looks_at asks session not_more = refl

-- nothing else is added
only_added : (p : Place) (reply : Reply) (q : Place) → Contains (added p reply) q → q ≡ p
only_added p (Published n) q (zero, less, is) = sym is
only_added p (Published n) q (suc k, less, is) = absurd (omega (arith, less))
only_added p reply q (k, less, is) = absurd (omega (arith, less))

-- what stands at a place of the story's scripts
pub stands_in : (scripts : List (List CommandView)) (story : Story) (p : Place) (x y : CommandView) → story.scripts ≡ scripts → command_at scripts p ≡ Some x → x ≡ y → command_at story.scripts p ≡ Some y
stands_in scripts story p x y same at is = ap (λ (l : List (List CommandView)). command_at l p) same ∙ at ∙ ap Some is

module _ {H : Type 0} (story : Story) (session : Session H) where
  -- the session stands in the log where it has come to
  pub is_at : (log : LogId) (after : Session H × Reply) → IsAt log story.scripts session → after.0.session ≡ session.session → after.0.place ≡ session.place → Grows story (place_in session) after.1 session.pass after.0.pass
      → IsAt log story.scripts (counted after).0
  is_at log after at same_session same_place grown = record {
    same_log = grown.same_log ∙ at.same_log;
    alone = grown.same_sessions ∙ at.alone ∙ ap (λ (n : ℕ). n ∷ []) (sym same_session);
    earlier = λ code seen own.
        let mine : code_session code ≡ session.session = own ∙ same_session in
        let low : (place_of story.scripts code).command ≤ session.place + 1 = ⊎_elim
        (λ (old : Contains session.pass.seen code). let le = at.earlier code old mine in omega (arith, le))
        (λ (new : Contains grown.new code).
        let here = own_stands story.scripts session.session grown.new code mine new.0 new.1 new.2 in
        let is = only_added (place_in session) after.1 (place_of story.scripts code) (subst (λ (l : List Place). Contains l (place_of story.scripts code)) grown.own here) in
        omega (arith, ap (λ (p : Place). p.command) is))
        (Contains-append_cases session.pass.seen grown.new code (subst (λ (l : List ℕ). Contains l code) grown.seen seen)) in
        omega (arith, low, same_place);
  }

  module _ (Stands : H → Dictionary → Progress → Type 0) where
    grow : (up : Session H) (learns : Learns story.scripts (session.pass, session.view) (up.pass, up.view)) → journal_in story up ≡ journal_in story session ++ places_of story.scripts learns.codes
    grow up learns = ap (places_of story.scripts) learns.seen ∙ map-append (place_of story.scripts) session.pass.seen learns.codes

    -- what was learned is in the dictionary
    pub come_up : (up : Session H) → Learns story.scripts (session.pass, session.view) (up.pass, up.view) → up.held ≡ session.held → HasCome Stands story session → HasCome Stands story up
    come_up up learns held come =
        let old : List Place = journal_in story session in
        let more : List Place = places_of story.scripts learns.codes in record {
          newest = learns.applied ∙ ap (λ (dict : Dictionary). dictionary_after story.scripts dict more) come.newest ∙ sym (after_append story.scripts story.base old more) ∙ ap (dictionary_after story.scripts story.base) (sym (grow up learns));
          holds = rw held (holds_on Stands story story.holding story.limit old (journal_in story up) more session.held story.holding (omega arith) (grow up learns) come.holds);
        }

    module _ (meaning : Meaning) (alone : session.pass.sessions ≡ session.session ∷ []) where
      none_own : (codes : List ℕ) → list_any (is_of session.pass.sessions) codes ≡ false → own_in (session.session + 1) (places_of story.scripts codes) ≡ []
      none_own codes others = others_elsewhere story.scripts session.session codes (subst (λ (l : List ℕ). list_any (is_of l) codes ≡ false) alone others)

      -- an answer that does not look
      pub at_once : (after : Session H × Reply) → command_at story.scripts (place_in session) ≡ Some goes_on → IsAnswered meaning Stands session goes_on after → Answers meaning Stands story session after
      at_once after stands answered =
          let grown : Grows story (place_in session) after.1 session.pass after.0.pass = record {
            same_log = ap (λ (p : Standing). p.log) answered.stays.pass;
            same_sessions = ap (λ (p : Standing). p.sessions) answered.stays.pass;
            new = [];
            seen = ap (λ (p : Standing). p.seen) answered.stays.pass ∙ sym (append-nil session.pass.seen);
            own = sym (answered.unpublished (place_in session));
          } in record {
            same_session = answered.stays.session;
            same_place = answered.stays.place;
            grown = grown;
            turned = λ command is come.
                let a = answered.answers story come in
                subst (λ (x : CommandView). Turned meaning Stands story session x (counted after)) (same_Some goes_on command (sym stands ∙ is)) (record {
                  then = a.then;
                  same_session = answered.stays.session;
                  next_place = ap (λ (n : ℕ). n + 1) answered.stays.place;
                  grown = grown;
                  looks = answered.stays.pass;
                  come = record { newest = a.come.newest; holds = a.come.holds };
                  answer = a.answer;
                  timely = a.timely;
                });
            steps = λ actors st.
                let e = answered.steps story.scripts story.base actors stands st in record {
                  then = e.then;
                  note = e.note;
                  path = subst (λ (p : Standing). Path story.scripts story.base session.session session.pass actors p e.then (e.note ∷ [])) (sym answered.stays.pass)
                      (paths.goes session.pass session.pass session.pass actors e.then e.then (Some e.note) [] (paths.pages session.pass actors e.then (Some e.note) e.happens) (paths.ends session.pass e.then));
                  told = e.told;
                  stands = e.stands;
                };
          }

      -- an answer after a look at the end of the history
      pub after_look : (Over : Dictionary → Type 0) (up : Session H) (after : Session H × Reply) (command : CommandView) → LeavesIt command Over → command_at story.scripts (place_in session) ≡ Some command
          → is_more command ≡ false → IsUp story.scripts Over session up → IsAnswered meaning Stands up command after → Answers meaning Stands story session after
      after_look Over up after command leaves stands not_more is_up answered =
          let learns : Learns story.scripts (session.pass, session.view) (up.pass, up.view) = is_up.up.learns in
          let here : place_in up ≡ place_in session = λ i. record { session = is_up.session i + 1; command = is_up.place i + 1 } in
          let grown : Grows story (place_in session) after.1 session.pass after.0.pass = record {
            same_log = ap (λ (p : Standing). p.log) answered.stays.pass ∙ learns.same_log;
            same_sessions = ap (λ (p : Standing). p.sessions) answered.stays.pass ∙ learns.same_sessions;
            new = learns.codes;
            seen = ap (λ (p : Standing). p.seen) answered.stays.pass ∙ learns.seen;
            own = none_own learns.codes learns.others ∙ sym (answered.unpublished (place_in session));
          } in record {
            same_session = answered.stays.session ∙ is_up.session;
            same_place = answered.stays.place ∙ is_up.place;
            grown = grown;
            turned = λ asked is come.
                let a = answered.answers story (come_up up learns is_up.held come) in
                subst (λ (x : CommandView). Turned meaning Stands story session x (counted after)) (same_Some command asked (sym stands ∙ is)) (record {
                  then = a.then;
                  same_session = answered.stays.session ∙ is_up.session;
                  next_place = ap (λ (n : ℕ). n + 1) (answered.stays.place ∙ is_up.place);
                  grown = grown;
                  looks = subst (λ (p : Standing). LooksFor command after.1 session.pass p) (sym answered.stays.pass) (looks_for command after.1 session.pass up.pass not_more is_up.up.meets);
                  come = record { newest = a.come.newest; holds = a.come.holds };
                  answer = subst (λ (p : Place). AnswerIs (run_in meaning story (journal_in story after.0)) p story.holding command after.1 a.then) here a.answer;
                  timely = a.timely;
                });
            steps = λ actors st.
                let scripts : List (List CommandView) = story.scripts in
                let base : Dictionary = story.base in
                let last : Known = is_up.up.walks.then in
                let w = ways.walked scripts base session command stands Over leaves actors alone st (session.pass, session.view) last is_up.up.walks.walks refl in
                let is_last : up.pass ≡ at_end last.0 = ap (λ (k : Known). k.0) is_up.up.walks.last in
                let view_is : up.view ≡ last.1 = ap (λ (k : Known). k.1) is_up.up.walks.last in
                let end : Session H = ways.come scripts base session (at_end last.0, last.1) in
                let st_end : StandsFor scripts base end w.then = record { actor = w.stands.actor; is = w.stands.is; place = w.stands.place; seen = w.stands.seen; held = w.stands.held; newest = w.stands.newest } in
                let st_up : StandsFor scripts base up w.then = actors_of.stands_same scripts base end up w.then is_up.session is_up.place is_last view_is is_up.held st_end in
                let e = answered.steps scripts base w.then (ap (command_at scripts) here ∙ stands) st_up in
                let event : ending command up.session ≡ Look session.session = ap (ending command) is_up.session ∙ looks_at command session.session not_more in
                let step : Happens scripts base (known last.0 w.then) (Look session.session) (known last.0 e.then) (Some e.note) =
                subst (λ (z : Standing × Event). Happens scripts base (known z.0 w.then) z.1 (known z.0 e.then) (Some e.note)) (λ i. (is_last i, event i)) e.happens in record {
                  then = e.then;
                  note = e.note;
                  path = subst (λ (p : Standing). Path scripts base session.session session.pass actors p e.then (e.note ∷ [])) (sym (answered.stays.pass ∙ is_last))
                      (ways.steps_on scripts base session session.pass last.0 (at_end last.0) actors w.then e.then (Some e.note) (e.note ∷ []) w.path (paths.looks last.0 w.then e.then (Some e.note) step) refl);
                  told = e.told;
                  stands = e.stands;
                };
          }

      -- an edit that was published
      is_published : (after : Session H) (edit : EditView) (code n : ℕ) → command_at story.scripts (place_in session) ≡ Some (makes edit) → place_of story.scripts code ≡ place_in session → code_session code ≡ session.session
          → code ≡ code_after story.scripts session.session session.place → after.session ≡ session.session → after.place ≡ session.place → after.held ≡ session.held → Publishes story.scripts code edit (session.pass, session.view) (after.pass, after.view) n → Answers meaning Stands story session (after, Published n)
      is_published after edit code n stands at own counted_so same_session same_place held published =
          let p : Place = place_in session in
          let scripts : List (List CommandView) = story.scripts in
          let learns : Learns scripts (session.pass, session.view) published.then = published.learns in
          let middle : Session H = record after { pass = published.then.0; view = published.then.1 } in
          let before : List Place = journal_in story middle in
          let one_more : journal_in story after ≡ before ++ p ∷ [] = ap (λ (s : Standing). places_of scripts s.seen) published.published ∙ map-append (place_of scripts) published.then.0.seen (code ∷ []) ∙ ap (λ (q : Place). before ++ q ∷ []) at in
          let newest : n ≡ length before + 1 = published.newest ∙ sym (length-map after.pass.seen (place_of scripts)) ∙ ap length one_more ∙ length-append before (p ∷ []) in
          let grown : Grows story p (Published n) session.pass after.pass = record {
            same_log = ap (λ (s : Standing). s.log) published.published ∙ learns.same_log;
            same_sessions = ap (λ (s : Standing). s.sessions) published.published ∙ learns.same_sessions;
            new = learns.codes ++ code ∷ [];
            seen = ap (λ (s : Standing). s.seen) published.published ∙ ap (λ (l : List ℕ). l ++ code ∷ []) learns.seen ∙ append_assoc session.pass.seen learns.codes (code ∷ []);
            own = ap (own_in p.session) (map-append (place_of scripts) learns.codes (code ∷ [])) ∙ filter-append (λ (q : Place). q.session == p.session) (places_of scripts learns.codes) (place_of scripts code ∷ [])
                ∙ ap (λ (l : List Place). l ++ own_in p.session (place_of scripts code ∷ [])) (none_own learns.codes learns.others) ∙ ap (λ (q : Place). own_in p.session (q ∷ [])) at ∙ own_here p.session p refl;
          } in record {
            same_session = same_session;
            same_place = same_place;
            grown = grown;
            turned = λ asked is come.
                let up = come_up middle learns held come in
                let there : version_of scripts story.base (journal_in story after) (n - 1) ≡ published.then.1 =
                (λ i. version_of scripts story.base (one_more i) (n - 1)) ∙ ap (version_of scripts story.base (before ++ p ∷ [])) (omega (arith, newest)) ∙ version_more scripts story.base before (p ∷ []) (length before) (omega arith)
                ∙ version_newest scripts story.base before ∙ sym up.newest in
                subst (λ (x : CommandView). Turned meaning Stands story session x (counted (after, Published n))) (same_Some (makes edit) asked (sym stands ∙ is)) (record {
                  then = story.holding;
                  same_session = same_session;
                  next_place = ap (λ (k : ℕ). k + 1) same_place;
                  grown = grown;
                  looks = tt;
                  come = record {
                    newest = published.made ∙ ap (λ (dict : Dictionary). after_edit dict edit) up.newest ∙ ap (after_command (dictionary_after scripts story.base before)) (sym stands) ∙ sym (after_push scripts story.base before p)
                        ∙ ap (dictionary_after scripts story.base) (sym one_more);
                    holds = holds_on Stands story story.holding (story.limit + 2000000) before (journal_in story after) (p ∷ []) after.held story.holding (omega arith) one_more up.holds;
                  };
                  answer = legal.published story.holding edit n (record {
                    stands = (λ i. numbered (one_more i) (newest i)) ∙ numbered_push before p;
                    accepted = ap (λ (dict : Dictionary). accept dict edit) there ∙ published.accepted;
                  });
                  timely = published.newest;
                });
            steps = λ actors st.
                let base : Dictionary = story.base in
                let last : Known = published.then in
                let w = ways.walked scripts base session (makes edit) stands (Accepts edit) (λ dict accepted. (edit, refl, accepted)) actors alone st (session.pass, session.view) last published.walks refl in
                let a : Actor = w.stands.actor in
                let b : Actor = record a { place = a.place + 1; seen = a.seen + 1 } in
                let final : List Actor = slice_set w.then session.session b in
                let note : Note = note_of session.session a (a.seen + 1) noted.Published in
                let accepted : accept (happens.seen_by scripts base (known last.0 w.then) a) edit ≡ None = ap (λ (d : Dictionary). accept d edit) (actors_of.sees scripts base (ways.come scripts base session last) w.then w.stands) ∙ published.accepted in
                let code_is : code_after scripts session.session a.place ≡ code = ap (code_after scripts session.session) w.stands.place ∙ sym counted_so in
                let step : Happens scripts base (known last.0 w.then) (Publish session.session) (known (with_code last.0 code) final) (Some note) =
                subst (λ (c : ℕ). Happens scripts base (known last.0 w.then) (Publish session.session) (known (with_code last.0 c) final) (Some note)) code_is
                (happens.publishes session.session a edit (actors_of.at_end scripts base (ways.come scripts base session last) w.then w.stands (makes edit) stands) accepted) in
                let mine : is_of (session.session ∷ []) code ≡ true = ap (λ (k : ℕ). eqb k session.session || false) own ∙ ap (λ (b : Bool). b || false) (eq-eqb session.session session.session refl) in
                let long : length after.pass.seen ≡ length last.0.seen + 1 = ap (λ (s : Standing). length s.seen) published.published ∙ length-append last.0.seen (code ∷ []) in
                let seen : a.seen + 1 ≡ n = omega (arith, published.newest, long, w.stands.seen) in record {
                  then = final;
                  note = note;
                  path = subst (λ (p : Standing). Path scripts base session.session session.pass actors p final (note ∷ [])) (sym published.published)
                      (ways.steps_on scripts base session session.pass last.0 (with_code last.0 code) actors w.then final (Some note) (note ∷ []) w.path (paths.publishes last.0 w.then final code (Some note) mine step) refl);
                  told = subst (λ (k : ℕ). Tells (Published k) (a.seen + 1) noted.Published) seen (paths.published (a.seen + 1));
                  stands = record {
                    actor = b;
                    is = ap (slice_get final) same_session ∙ get_set w.then session.session a b w.stands.is;
                    place = ap (λ (k : ℕ). k + 1) (w.stands.place ∙ sym same_place);
                    seen = omega (arith, long, w.stands.seen);
                    held = subst (λ (h : Option (ℕ × H)). HeldAs h a.held) (sym held) w.stands.held;
                    newest = published.made ∙ ap (λ (dict : Dictionary). after_edit dict edit) w.stands.newest ∙ ap (after_command (dictionary_after scripts base before)) (sym stands) ∙ sym (after_push scripts base before p)
                        ∙ ap (dictionary_after scripts base) (sym one_more);
                  };
                };
          }

      pub is_made : (edit : EditView) (after : Session H) (reply : Reply) → command_at story.scripts (place_in session) ≡ Some (makes edit) → IsMade story.scripts edit session (after, reply) → Answers meaning Stands story session (after, reply)
      is_made edit after (Published n) stands made = is_published after edit made.code n stands made.at made.own made.counted_so made.session made.place made.held made.edited
      is_made edit after (Refused n cause name) stands made = after_look (Accepts edit) after (after, Refused n cause name) (makes edit) (λ dict accepted. (edit, refl, accepted)) stands refl
          (record { session = made.session; place = made.place; held = made.held; up = made.edited.up }) (is_refused Stands meaning after edit n cause name made.edited.newest made.edited.refused made.edited.named)
      is_made edit after reply stands made = absurd made.edited
