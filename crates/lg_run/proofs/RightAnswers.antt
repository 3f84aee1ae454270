-- The journal of a run holds, as an audit says it, and so does every answer: each is right by what its session came to before it.
use Rattle.std.proofs.Common.{◌≡◌, inl, inr, ℕ, zero, suc, ◌+◌, ◌-◌, ◌≤◌, false, List, [], ◌∷◌, ◌++◌, length, map, drop, All, Option, Some, None, IsSome, option_map, refl, sym, ap, subst, ◌∙◌, arith}
use Rattle.std.proofs.lemmas.Bool.{cases_lt}
use Rattle.std.proofs.lemmas.List.{length-map}
use Rattle.std.proofs.lemmas.List.Elements.{All-contains, All-head, All-tail}
use Rattle.std.proofs.lemmas.Option.{none-some}
use Rattle.lg_gram.specs.Linkages.{Linkage}
use Rattle.lg_gram.specs.declared.disjunct.Disjunct.{Disjunct}
use Rattle.lg_gram.specs.declared.listing.Page.{Page}
use Rattle.lg_gram.specs.declared.listing.Stats.{Stats}
use Rattle.lg_gram.specs.declared.listing.Token.{Token}
use Rattle.lg_gram.specs.declared.reply.Place.{Place}
use Rattle.lg_gram.specs.declared.reply.Reply.{Reply}
use Rattle.lg_gram.specs.declared.reply.Reply.TheVariants.{Listed}
use Rattle.lg_dict.specs.Dictionary.{Dictionary}
use Rattle.lg_knowread.specs.declared.knowledge.Knowledge.{Knowledge}
use Rattle.lg_token.specs.Bounds.{AreListed}
use Rattle.lg_token.specs.Problems.{IsProblemOf}
use Rattle.lg_answer.specs.Candidates.{AreFirst}
use Rattle.lg_answer.specs.Problems.{IsProblemInUse}
use Rattle.lg_answer.specs.declared.options.Options.{Options}
use Rattle.lg_answer.proofs.Places.{at_place}
use Rattle.lg_script.specs.Bounds.{IsInBounds, AreInBounds}
use Rattle.lg_script.specs.Commands.{CommandView, goes_on}
use Rattle.lg_script.specs.Histories.{numbered, command_in, AreInTime}
use Rattle.lg_session.specs.Engines.{Progress, start_of, moved}
use Rattle.lg_session.specs.Legal.{Holding, AsksFor as Asks, parse as of_parse, list as of_list, Run, dictionary_at, AnswerIs, published, refused, version, listed, beyond, more, no_more, Answered, so_far, next, AnswersAll}
use Rattle.lg_audit.specs.Audits.{JournalHolds, Holds, IsPlaceOf}
use Rattle.lg_audit.specs.Lines.{ShownReply, listed as lists_shown}
use Rattle.lg_audit.specs.Replies.{Basis, Held, AsksFor, parse, list, GoesOn, IsPageOf, ReplyHolds, edited, not_edited, tells, lists_page, past_bound, more as shows_more, no_more as shows_none, Hold, none_yet, one_more}
use Rattle.lg_run.specs.Determined.{AreAnswersBy}
use Rattle.lg_run.specs.Documents.{listings, wanted, IsShown}
use Rattle.lg_run.proofs.EditSums.{next_left, next_there}
use Rattle.lg_run.proofs.OnePage.{one_problem}
use Rattle.lg_run.proofs.RightPages.{passing, HasGone, none_gone, length_is, next_count, gone_on, page_right, place_there}
use Rattle.lg_run.proofs.RightVersions.{in_time_so_far, has_published_too, journal_edits, numbered_map, some_numbered}
use Rattle.lg_audit.specs.ShownAnswers.{Unread, shown_item, shown_page, shown_reply, shown_document}

-- ---- the journal

pub journal_holds : (unread : Unread) (know : Knowledge) (options : Options) (scripts : List (List CommandView)) (base : Dictionary) (journal : List Place) (replies : List (List Reply)) (usage : List (List ℕ))
    → AreAnswersBy know options scripts base journal replies → JournalHolds (record { base = base; know = know; scripts = scripts }) (shown_document unread replies journal usage)
journal_holds unread know options scripts base journal replies usage legal = record {
  edits = journal_edits (record { meaning = listings know options; scripts = scripts; base = base; journal = journal }) replies legal;
  published = has_published_too unread journal replies legal.journal;
}

-- ---- answers

module _ (unread : Unread) (know : Knowledge) (options : Options) (scripts : List (List CommandView)) (base : Dictionary) (journal : List Place)
    (plain : options.idioms ≡ false) (some_want : 1 ≤ options.want) (some_examine : 1 ≤ options.examine) (no_counts : unread.counts None ≡ None) where
  abbrev run : Run
  run = record { meaning = listings know options; scripts = scripts; base = base; journal = journal }

  abbrev basis : Basis
  basis = record { base = base; know = know; scripts = scripts; journal = journal }

  abbrev dict_of : ℕ → Dictionary
  dict_of n = dictionary_at run n

  -- What is held, where the next candidate has this number and these linkages were shown: they are among the first candidates of the
  -- sentence, as far as the listing has come.
  record IsShowing (h : Holding) (following : ℕ) (before : List Linkage) : Type 0 where
    number : following ≡ h.progress.position + 1
    wants : 1 ≤ wanted options h.progress.want
    tokenized : AreListed (dict_of h.version) h.progress.text h.progress.tokens
    problem : List (List Disjunct)
    of_tokens : IsProblemOf (dict_of h.version) h.progress.tokens problem
    front : List Linkage
    first : AreFirst problem know options.nulls front
    count : length front ≡ h.progress.position
    gone : HasGone problem know options.nulls h.progress.position before

  abbrev held_as : Holding → ℕ → List Linkage → Held
  held_as h following before = record { version = h.version; text = h.progress.text; next = following; shown = before }

  -- what a run holds, and what an audit does
  data Stands : Option Holding → Option Held → Type 0 where
    nothing : Stands None None
    something : (h : Holding) (following : ℕ) (before : List Linkage) → IsShowing h following before → Stands (Some h) (Some (held_as h following before))

  -- ---- pages

  abbrev after_page : ℕ → Progress → Page → Holding
  after_page n progress page = record { version = n; progress = moved progress page }

  record IsStep (n : ℕ) (progress : Progress) (page : Page) (before : List Linkage) : Type 0 where
    is_page : IsPageOf know (dict_of n) progress.text (progress.position + 1) before (passing page.items) (shown_page unread progress.tokens page)
    showing : IsShowing (after_page n progress page) page.next (before ++ passing page.items)

  plain_problem : (dict : Dictionary) (progress : Progress) (page : Page) (is : IsShown know options dict progress page) → IsProblemOf dict progress.tokens is.problem
  plain_problem dict progress page is = subst (λ b. IsProblemInUse b dict progress.tokens is.problem) plain is.sentence.of_tokens

  page_step : (n : ℕ) (progress : Progress) (page : Page) (before : List Linkage) (is : IsShown know options (dict_of n) progress page) → AreListed (dict_of n) progress.text progress.tokens → 1 ≤ wanted options progress.want
      → HasGone is.problem know options.nulls is.place before → IsStep n progress page before
  page_step n progress page before is tokenized wants gone =
      let of_tokens = plain_problem (dict_of n) progress page is in
      let want = wanted options progress.want in
      record {
        is_page = page_right is.problem know options.nulls is.place want options.examine page is.shown progress.position is.behind unread progress.tokens wants some_examine (dict_of n) progress.text before tokenized of_tokens is.printable gone;
        showing = record {
          number = omega (arith, is.shown.next);
          wants = wants;
          tokenized = tokenized;
          problem = is.problem;
          of_tokens = of_tokens;
          front = is.shown.front;
          first = is.shown.first;
          count = next_count is.problem know options.nulls is.place want options.examine page is.shown;
          gone = gone_on is.problem know options.nulls is.place want options.examine page is.shown before gone;
        };
      }

  -- the next page of a listing that is held
  module _ (h : Holding) (following : ℕ) (before : List Linkage) (held : IsShowing h following before) (page : Page) (is : IsShown know options (dict_of h.version) h.progress page) where
    same_problem : held.problem ≡ is.problem
    same_problem = one_problem (dict_of h.version) h.progress.tokens held.problem is.problem held.of_tokens (plain_problem (dict_of h.version) h.progress page is)

    same_place : is.place ≡ h.progress.position
    same_place = place_there is.problem know options.nulls h.progress.position is.place held.front (subst (λ ps. AreFirst ps know options.nulls held.front) same_problem held.first) held.count is.behind

    next_step : IsStep h.version h.progress page before
    next_step = page_step h.version h.progress page before is held.tokenized held.wants
        (subst (λ n. HasGone is.problem know options.nulls n before) (sym same_place) (subst (λ ps. HasGone ps know options.nulls h.progress.position before) same_problem held.gone))

    goes : GoesOn following (shown_page unread h.progress.tokens page)
    goes none =
        let no_items = ap (λ l. length l) none in
        let long = length-map page.items (shown_item unread h.progress.tokens) in
        let looked = length_is is.problem know options.nulls is.place (wanted options h.progress.want) options.examine page is.shown in
        omega (arith, no_items, long, looked, is.shown.next, same_place, held.number)

  -- ---- one answer

  record Wanted (command : CommandView) (text : List ℕ) (first : ℕ) (want : Option ℕ) : Type 0 where
    asks : AsksFor command text first
    from_one : 1 ≤ first
    some : 1 ≤ wanted options want

  asked : (command : CommandView) (text : List ℕ) (first : ℕ) (want : Option ℕ) → Asks command text first want → IsInBounds command → Wanted command text first want
  asked _ _ _ _ (of_parse text) bounds = record { asks = parse text; from_one = omega arith; some = some_want }
  asked _ _ _ _ (of_list first want text) bounds = record { asks = list first want text; from_one = bounds.0.0; some = bounds.1.0 }

  -- the answer holds, and then that is held
  record Comes (p : Place) (held : Option Held) (command : CommandView) (r : Reply) (then : Option Holding) : Type 0 where
    after : Option Held
    holds : ReplyHolds basis p held command (shown_reply unread r) after
    stands : Stands then after

  first_page : (p : Place) (s : Option Held) (command : CommandView) (text : List ℕ) (first : ℕ) (want : Option ℕ) (n : ℕ) (page : Page) (stats : Stats) (tokens : List Token) → Wanted command text first want
      → IsStep n (start_of text want tokens first) page [] → Comes p s command (Listed n tokens page (Some stats)) (Some (after_page n (start_of text want tokens first) page))
  first_page p s command text first want n page stats tokens w step =
      let from : first - 1 + 1 ≡ first = omega (arith, w.from_one) in
      record {
        after = Some (record { version = n; text = text; next = page.next; shown = passing page.items });
        holds = lists_page s command text first n (unread.counts (Some stats)) (shown_page unread tokens page) (passing page.items) w.asks
            (subst (λ k. IsPageOf know (dict_of n) text k [] (passing page.items) (shown_page unread tokens page)) from step.is_page);
        stands = something (after_page n (start_of text want tokens first) page) page.next (passing page.items) step.showing;
      }

  next_page : (p : Place) (h : Holding) (following : ℕ) (before : List Linkage) (held : IsShowing h following before) (page : Page) → IsShown know options (dict_of h.version) h.progress page
      → Comes p (Some (held_as h following before)) goes_on (Listed h.version h.progress.tokens page None) (Some (after_page h.version h.progress page))
  next_page p h following before held page is =
      let step = next_step h following before held page is in
      let shown = shown_page unread h.progress.tokens page in
      let after : Option Held = Some (record { version = h.version; text = h.progress.text; next = page.next; shown = before ++ passing page.items }) in
      record {
        after = after;
        holds = subst (λ c. ReplyHolds basis p (Some (held_as h following before)) goes_on (lists_shown h.version c shown) after) (sym no_counts)
            (shows_more (held_as h following before) shown (passing page.items) (goes h following before held page is)
            (subst (λ k. IsPageOf know (dict_of h.version) h.progress.text k before (passing page.items) shown) (sym held.number) step.is_page));
        stands = something (after_page h.version h.progress page) page.next (before ++ passing page.items) step.showing;
      }

  one_answer : (p : Place) (held then : Option Holding) (s : Option Held) (command : CommandView) (r : Reply) → AnswerIs run p held command r then → IsInBounds command → Stands held s → Comes p s command r then
  one_answer p _ _ s _ _ (published held edit n is) bounds stands = record { after = s; holds = edited s edit n is; stands = stands }
  one_answer p _ _ s _ _ (refused held edit n cause name is) bounds stands = record { after = s; holds = not_edited s edit n cause name is; stands = stands }
  one_answer p _ _ s _ _ (version held n) bounds stands = record { after = s; holds = tells s n; stands = stands }
  one_answer p _ _ s _ _ (listed held command text first want n tokens page stats asks is shows counts) bounds stands =
      let w = asked command text first want asks bounds in
      first_page p s command text first want n page stats tokens w (page_step n (start_of text want tokens first) page [] shows is w.some (none_gone shows.problem know options.nulls shows.place))
  one_answer p _ _ s _ _ (beyond held command text first want n bound asks is) bounds stands =
      record { after = None; holds = past_bound s command text first n bound (asked command text first want asks bounds).asks is; stands = nothing }
  one_answer p _ _ _ _ _ (more h page shows) bounds (something _ following before held) = next_page p h following before held page shows
  one_answer p _ _ _ _ _ no_more bounds nothing = record { after = None; holds = shows_none; stands = nothing }

  -- ---- the answers of a session

  module _ (session : ℕ) (commands : List CommandView) (replies : List Reply) (time : AreInTime journal commands replies) where
    abbrev all_shown : List ShownReply
    all_shown = map (shown_reply unread) replies

    abbrev HoldAt : ℕ → Type 0
    HoldAt k = (s : Option Held) × Hold basis session commands all_shown k s

    -- of the answers from that number on, which are left, the first so many hold
    hold_on : (n m : ℕ) (held : Option Holding) (s : Option Held) (rest : List CommandView) (rs : List Reply) → Answered run session n held rest rs → n ≡ m + 1 → rest ≡ drop m commands → rs ≡ drop m replies → All IsInBounds rest
        → Hold basis session commands all_shown m s → Stands held s → (k : ℕ) → m ≤ k → k ≤ m + length rs → HoldAt k
    hold_on _ m _ s _ _ (so_far n held rest) number of_commands of_replies bounds hold stands k low high =
        let same : m ≡ k = omega (arith, low, high) in (s, subst (λ n. Hold basis session commands all_shown n s) same hold)
    hold_on _ m _ s _ _ (next n held then command rest r rs is later) number of_commands of_replies bounds hold stands k low high = elim (cases_lt m k) [
      | inr le ↦ let same : m ≡ k = omega (arith, low, le) in (s, subst (λ n. Hold basis session commands all_shown n s) same hold)
      | inl less ↦
          let one = one_answer (record { session = session; command = n }) held then s command r is (All-head IsInBounds command rest bounds) stands in
          let up : m + 1 ≡ suc m = omega arith in
          let command_there = ap (numbered commands) up ∙ next_there commands m command rest of_commands in
          let reply_there = numbered_map (shown_reply unread) replies (m + 1) ∙ ap (option_map (shown_reply unread)) (ap (numbered replies) up ∙ next_there replies m r rs of_replies) in
          hold_on (n + 1) (m + 1) then one.after rest rs later (ap (λ i. i + 1) number) (next_left commands m command rest of_commands ∙ ap (λ n. drop n commands) (sym up)) (next_left replies m r rs of_replies ∙ ap (λ n. drop n replies) (sym up))
          (All-tail IsInBounds command rest bounds)
          (one_more m s one.after command (shown_reply unread r) hold command_there reply_there (in_time_so_far unread journal commands replies (m + 1) time)
          (subst (λ i. ReplyHolds basis (record { session = session; command = i }) s command (shown_reply unread r) one.after) number one.holds))
          one.stands k (omega (arith, less)) (omega (arith, high))
    ]

    pub holds_so_far : Answered run session 1 None commands replies → All IsInBounds commands → (k : ℕ) → k ≤ length replies → HoldAt k
    holds_so_far answered bounds k high = hold_on 1 0 None None commands replies answered refl refl refl bounds none_yet nothing k (omega arith) (omega (arith, high))

within : {A : Type 0} (xs : List A) (n : ℕ) → IsSome (numbered xs n) → n ≤ length xs
within xs zero some = omega arith
within [] (suc n) some = absurd (cc some)
within (x ∷ xs) (suc zero) some = omega arith
within (x ∷ xs) (suc (suc n)) some = let le = within xs (suc n) some in omega (arith, le)

numbered_all : {A : Type 0} (P : A → Type 0) (xs : List A) (n : ℕ) (x : A) → All P xs → numbered xs n ≡ Some x → P x
numbered_all P xs zero x all e = absurd (none-some x e)
numbered_all P xs (suc n) x all e = All-contains P xs x all (at_place xs x (n, e))

pub answers_hold : (unread : Unread) (know : Knowledge) (options : Options) (scripts : List (List CommandView)) (base : Dictionary) (journal : List Place) (replies : List (List Reply)) (usage : List (List ℕ))
    → options.idioms ≡ false → 1 ≤ options.want → 1 ≤ options.examine → unread.counts None ≡ None → All AreInBounds scripts
    → AreAnswersBy know options scripts base journal replies → AnswersAll scripts replies
    → (p : Place) → IsPlaceOf (record { base = base; know = know; scripts = scripts }) p → Holds (record { base = base; know = know; scripts = scripts }) (shown_document unread replies journal usage) p
answers_hold unread know options scripts base journal replies usage plain some_want some_examine no_counts bounds legal whole p there = go (numbered scripts p.session) refl there
  where
    go : (o : Option (List CommandView)) → numbered scripts p.session ≡ o → IsSome (command_in o p.command) → Holds (record { base = base; know = know; scripts = scripts }) (shown_document unread replies journal usage) p
    go None is some = absurd (cc some)
    go (Some commands) is some =
        let answers = some_numbered scripts replies p.session commands legal.same_length is in
        let long = whole p.session commands answers.0 is answers.1 in
        let own = legal.sessions p.session commands answers.0 is answers.1 in
        let low = within commands p.command some in
        let held = holds_so_far unread know options scripts base journal plain some_want some_examine no_counts p.session commands answers.0 own.in_time own.answered
        (numbered_all AreInBounds scripts p.session commands bounds is).each p.command (omega (arith, low, long)) in (
          held.0,
          record {
            commands = commands;
            replies = map (shown_reply unread) answers.0;
            script = is;
            answers = numbered_map (map (shown_reply unread)) replies p.session ∙ ap (option_map (map (shown_reply unread))) answers.1;
            hold = held.1;
          },
        )
