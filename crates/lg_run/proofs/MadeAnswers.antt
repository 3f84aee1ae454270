-- Legal answers to a script of parses: they publish nothing, and what they add to the sums is small.
use Rattle.std.proofs.Common.{◌≡◌, ℕ, zero, suc, ◌+◌, ◌-◌, ◌≤◌, ◌<◌, Bool, true, false, cond, List, [], ◌∷◌, length, map, filter, drop, All, get_or, sum, count_by, Contains, Option, Some, None, slice_get, refl, sym, ap, subst, ◌∙◌, arith}
use Rattle.std.specs.List.{AllByRecursion, enumerate_from}
use Rattle.std.specs.Prelude.{slice_index_or, is_some}
use Rattle.std.proofs.lemmas.List.{length-map, length-drop}
use Rattle.std.proofs.lemmas.List.FromFn.{length-enumerate_from}
use Rattle.std.proofs.lemmas.List.Elements.{All-weaker, All-contains_itself}
use Rattle.std.proofs.lemmas.List.Sums.{sum_by-cons}
use Rattle.std.proofs.lemmas.Bool.{cond-false}
use Rattle.lg_gram.specs.Connectors.{Connector}
use Rattle.lg_gram.specs.Linkages.{Linkage}
use Rattle.lg_gram.specs.Rules.{Good, left_list}
use Rattle.lg_gram.specs.declared.disjunct.Disjunct.{Disjunct}
use Rattle.lg_gram.specs.declared.linkage.Link.{Link}
use Rattle.lg_gram.specs.declared.listing.Page.{Page}
use Rattle.lg_gram.specs.declared.listing.PageItem.{PageItem}
use Rattle.lg_gram.specs.declared.reply.Place.{Place}
use Rattle.lg_gram.specs.declared.reply.Reply.{Reply}
use Rattle.lg_dict.specs.Dictionary.{Dictionary}
use Rattle.lg_knowread.specs.declared.knowledge.Knowledge.{Knowledge}
use Rattle.lg_answer.specs.Pages.{IsLinkageFor, default_options}
use Rattle.lg_gen.specs.Accepted.{IsParse}
use Rattle.lg_script.specs.Bounds.{AreInBounds}
use Rattle.lg_script.specs.Codes.{AreScripts}
use Rattle.lg_script.specs.Commands.{CommandView, is_edit}
use Rattle.lg_script.specs.EditNumbers.{edit_counts}
use Rattle.lg_script.specs.Histories.{numbered, is_published, published_by}
use Rattle.lg_session.specs.Engines.{Progress}
use Rattle.lg_session.specs.Keepers.{AreKept, IsKept}
use Rattle.lg_session.specs.Legal.{Run, Holding, AnswerIs, published, refused, version, listed, beyond, more, no_more, Answered, so_far, next, IsLegal, AnswersAll}
use Rattle.lg_run.specs.Documents.{listings, no_knowledge, IsShown}
use Rattle.lg_run.specs.MadeRuns.{sums_text, IsMadeDocument}
use Rattle.lg_run.specs.Sums.{AreMade, EndsWithin, IsSmall}
use Rattle.lg_run.proofs.Turned.{no_more_than}
use Rattle.lg_run.proofs.Numbers.{from_all, in_each, place_in}

-- ---- one page

-- a link that ends at a connector ends at a position
within : (chosen : List (Option Disjunct)) (i q : ℕ) (c : Connector) → slice_get (left_list (slice_index_or chosen i None)) q ≡ Some c → i < length chosen
within [] zero q c e = absurd (cc e)
within [] (suc i) q c e = absurd (cc e)
within (o ∷ os) zero q c e = omega arith
within (o ∷ os) (suc i) q c e = let less = within os i q c e in omega (arith, less)

pub ends_within : (positions : List (List Disjunct)) (g : Linkage) → Good positions g → EndsWithin g
ends_within positions g good = All-weaker (λ (l : Link). Contains g.links l) (λ (l : Link). l.right < length g.chosen)
    (λ l has. let joins = good.rules.matched.joins l has in within g.chosen l.right l.rplace joins.1 joins.3) g.links (All-contains_itself g.links)

module _ (know : Knowledge) (dict : Dictionary) (progress : Progress) (page : Page) (shows : IsShown know default_options dict progress page) where
  -- a page looks at no more than 1,000 candidates
  few_items : length page.items ≤ 1000
  few_items =
      let p = shows.shown in
      let looked = no_more_than p.looked 1000 (λ k less. (p.goes_on k less).1) in
      let same : length page.items ≡ length p.front - shows.place =
      sym (length-map page.items (λ (item : PageItem). (item.number, item.linkage))) ∙ ap length p.numbered ∙ length-enumerate_from (shows.place + 1) (drop shows.place p.front) ∙ length-drop shows.place p.front in
      omega (arith, same, looked, p.within)

  small_items : All (λ (item : PageItem). EndsWithin item.linkage) page.items
  small_items = All-weaker (λ (item : PageItem). IsLinkageFor progress.tokens item.linkage) (λ (item : PageItem). EndsWithin item.linkage) (λ item is. ends_within is.good.positions item.linkage is.good.good) page.items shows.printable

-- ---- all answers

-- what holds of an answer to a parse
pub record IsQuiet (r : Reply) : Type 0 where
  pub small : IsSmall r
  pub silent : is_published r ≡ false

nothing_shown : All (λ (item : PageItem). EndsWithin item.linkage) []
nothing_shown k d less = absurd (omega (arith, less))

module _ (dict : Dictionary) (scripts : List (List CommandView)) (journal : List Place) where
  abbrev pub run : Run
  run = record { meaning = listings no_knowledge default_options; scripts = scripts; base = dict; journal = journal }

  answer_quiet : (p : Place) (held then : Option Holding) (command : CommandView) (r : Reply) → AnswerIs run p held command r then → IsParse command → IsQuiet r
  answer_quiet p _ _ _ _ (published held edit n is) (text, e) = absurd (cc e)
  answer_quiet p _ _ _ _ (refused held edit n cause name is) parse = record { small = record { few = omega arith; each = nothing_shown }; silent = refl }
  answer_quiet p _ _ _ _ (version held n) parse = record { small = record { few = omega arith; each = nothing_shown }; silent = refl }
  answer_quiet p _ _ _ _ (listed held command text first want n tokens page stats asks is shows counts) parse = record { small = record { few = few_items no_knowledge _ _ page shows; each = small_items no_knowledge _ _ page shows }; silent = refl }
  answer_quiet p _ _ _ _ (beyond held command text first want n bound asks is) parse = record { small = record { few = omega arith; each = nothing_shown }; silent = refl }
  answer_quiet p _ _ _ _ (more h page shows) parse = record { small = record { few = few_items no_knowledge _ _ page shows; each = small_items no_knowledge _ _ page shows }; silent = refl }
  answer_quiet p _ _ _ _ no_more parse = record { small = record { few = omega arith; each = nothing_shown }; silent = refl }

  answers_quiet : (session n : ℕ) (held : Option Holding) (commands : List CommandView) (rs : List Reply) → Answered run session n held commands rs → AllByRecursion IsParse commands → AllByRecursion IsQuiet rs
  answers_quiet session _ _ _ _ (so_far n held commands) parse = tt
  answers_quiet session _ _ _ _ (next n held then command commands r rs is rest) parse =
      (answer_quiet (record { session = session; command = n }) held then command r is parse.0, answers_quiet session (n + 1) then commands rs rest parse.1)

-- ---- the session

-- answers that publish nothing leave no places
none_published : (n : ℕ) (rs : List Reply) → AllByRecursion IsQuiet rs → filter (λ (x : ℕ × Reply). is_published x.1) (enumerate_from n rs) ≡ []
none_published n [] quiet = refl
none_published n (r ∷ rs) quiet =
    cond-false (is_published r) ((n, r) ∷ filter (λ (x : ℕ × Reply). is_published x.1) (enumerate_from (n + 1) rs)) (filter (λ (x : ℕ × Reply). is_published x.1) (enumerate_from (n + 1) rs)) quiet.0.silent
    ∙ none_published (n + 1) rs quiet.1

no_places : (journal : List Place) → AllByRecursion (λ (p : Place). ⊥) journal → journal ≡ []
no_places [] h = refl
no_places (p ∷ ps) h = absurd h.0

only_list : (rs others : List Reply) (session : ℕ) → numbered (rs ∷ []) session ≡ Some others → rs ≡ others
only_list rs others zero e = absurd (cc e)
only_list rs others (suc zero) e = cc
only_list rs others (suc (suc k)) e = absurd (cc e)

one_list : (replies : List (List Reply)) (rs : List Reply) → length replies ≡ 1 → rs ≡ get_or replies 0 rs → replies ≡ rs ∷ []
one_list [] rs e is = absurd (omega (arith, e))
one_list (x ∷ []) rs e is = ap (λ (l : List Reply). l ∷ []) (sym is)
one_list (x ∷ y ∷ rest) rs e is = absurd (omega (arith, e))

all_small : (rs : List Reply) → AllByRecursion IsQuiet rs → AllByRecursion IsSmall rs
all_small [] quiet = tt
all_small (r ∷ rs) quiet = (quiet.0.small, all_small rs quiet.1)

to_all : {X : Type 0} (P : X → Type 0) (xs : List X) → AllByRecursion P xs → All P xs
to_all P [] h k d less = absurd (omega (arith, less))
to_all P (x ∷ xs) h zero d less = h.0
to_all P (x ∷ xs) h (suc k) d less = to_all P xs h.1 k d (omega (arith, less))

module _ (dict : Dictionary) (commands : List CommandView) (journal : List Place) (rs : List Reply) (legal : IsLegal (run dict (commands ∷ []) journal) (rs ∷ [])) (parse : All IsParse commands) where
  quiet : AllByRecursion IsQuiet rs
  quiet = answers_quiet dict (commands ∷ []) journal 1 1 None commands rs (legal.sessions 1 commands rs refl refl).answered (from_all IsParse commands parse)

  pub small_replies : All IsSmall rs
  small_replies = to_all IsSmall rs (all_small rs quiet)

  pub no_journal : journal ≡ []
  no_journal = no_places journal (in_each (λ (p : Place). ⊥) (rs ∷ []) journal (from_all (λ (p : Place). is_some (numbered (rs ∷ []) p.session) ≡ true) journal legal.journal.no_other)
      (λ session others is. subst (λ (l : List Place). AllByRecursion (λ (p : Place). ⊥) l) (sym (legal.journal.each session others is ∙ none session others (only_list rs others session is))) tt)) where
        none : (session : ℕ) (others : List Reply) → rs ≡ others → published_by session others ≡ []
        none session others same = subst (λ (l : List Reply). published_by session l ≡ []) same (ap (map (place_in session)) (none_published 1 rs quiet))

-- ---- the inputs

no_edits : (commands : List CommandView) → AllByRecursion IsParse commands → count_by is_edit commands ≡ 0
no_edits [] parse = refl
no_edits (c ∷ cs) parse =
    let one : is_edit c ≡ false = ap is_edit parse.0.1 in
    let none : ◌≡◌ {A = ℕ} (cond (is_edit c) 1 0) 0 = ap (λ (b : Bool). cond b 1 0) one in
    omega (arith, sum_by-cons (λ (x : CommandView). cond (is_edit x) 1 0) c cs, none, no_edits cs parse.1)

module _ (seed words sentences : ℕ) (dict : Dictionary) (scripts : List (List CommandView)) (made : AreMade seed words sentences dict scripts) where
  edits_none : sum (edit_counts (made.commands ∷ [])) ≤ 100000
  edits_none = let one = sum_by-cons (λ (n : ℕ). n) (count_by is_edit made.commands) [] in let none = no_edits made.commands (from_all IsParse made.commands made.parse) in omega (arith, one, none)

  each_bound : All AreInBounds (made.commands ∷ [])
  each_bound = to_all AreInBounds (made.commands ∷ []) (made.bounds, tt)

  pub are_scripts : AreScripts scripts
  are_scripts = subst AreScripts (sym made.script) (record { some = omega arith; few = omega arith; edits = edits_none; each = each_bound })

  module _ (journal : List Place) (replies : List (List Reply)) (legal : IsLegal (run dict scripts journal) replies) where
    pub some_replies : length replies ≡ 1
    some_replies = legal.same_length ∙ ap length made.script

    module _ (whole : AnswersAll scripts replies) (rs : List Reply) (is : rs ≡ get_or replies 0 rs) where
      alone : replies ≡ rs ∷ []
      alone = one_list replies rs some_replies is

      legal_alone : IsLegal (run dict (made.commands ∷ []) journal) (rs ∷ [])
      legal_alone = subst (IsLegal (run dict (made.commands ∷ []) journal)) alone (subst (λ (s : List (List CommandView)). IsLegal (run dict s journal) replies) made.script legal)

      whole_alone : AnswersAll (made.commands ∷ []) (rs ∷ [])
      whole_alone = subst (AnswersAll (made.commands ∷ [])) alone (subst (λ (s : List (List CommandView)). AnswersAll s replies) made.script whole)

      pub few_replies : sentences ≤ 100000 → length rs ≤ 100000
      few_replies few = let same = whole_alone 1 made.commands rs refl refl in omega (arith, same, made.count, few)

      pub small_sums : All IsSmall rs
      small_sums = small_replies dict made.commands journal rs legal_alone made.parse

      pub made_document_is : (document : List ℕ) → document ≡ sums_text seed words sentences rs → IsMadeDocument seed words sentences document
      made_document_is document written = record {
        entries = made.entries;
        read_dictionary = made.read_dictionary;
        commands = made.commands;
        read_script = made.read_script;
        replies = rs;
        legal = subst (λ (d : Dictionary). IsLegal (run d (made.commands ∷ []) []) (rs ∷ [])) made.dictionary
            (subst (λ (j : List Place). IsLegal (run dict (made.commands ∷ []) j) (rs ∷ [])) (no_journal dict made.commands journal rs legal_alone made.parse) legal_alone);
        whole = whole_alone;
        is = written;
      }

-- ---- answers that are kept whole

whole_kept : (n : ℕ) (scripts : List (List CommandView)) (replies kept : List (List Reply)) → AreKept (λ session commands rs k. k ≡ rs) n scripts replies kept → kept ≡ replies
whole_kept n [] [] [] are = refl
whole_kept n [] [] (k ∷ kept) are = absurd are
whole_kept n [] (rs ∷ replies) kept are = absurd are
whole_kept n (cs ∷ scripts) [] kept are = absurd are
whole_kept n (cs ∷ scripts) (rs ∷ replies) [] are = absurd are
whole_kept n (cs ∷ scripts) (rs ∷ replies) (k ∷ kept) are = λ i. are.0 i ∷ whole_kept (n + 1) scripts replies kept are.1 i

pub whole_legal : (run : Run) (kept : List (List Reply)) → IsKept (λ session commands rs k. k ≡ rs) run kept → IsLegal run kept
whole_legal run kept is = subst (IsLegal run) (sym (whole_kept 1 run.scripts is.replies kept is.are)) is.legal

pub whole_all : (run : Run) (kept : List (List Reply)) → IsKept (λ session commands rs k. k ≡ rs) run kept → AnswersAll run.scripts kept
whole_all run kept is = subst (AnswersAll run.scripts) (sym (whole_kept 1 run.scripts is.replies kept is.are)) is.whole
