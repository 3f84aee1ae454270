-- Each legal answer of a run without idioms is in form, as an audit reads it: its numbers are of their types, and so is what its page shows.
use Rattle.std.proofs.Common.{◌≡◌, ℕ, ◌+◌, ◌-◌, ◌*◌, ◌^◌, ◌≤◌, ◌<◌, min, Bool, true, false, List, [], ◌∷◌, length, map, All, Option, Some, None, IfSome, subst, arith}
use Rattle.std.specs.List.{AllByRecursion}
use Rattle.std.specs.Option.{is_some, option_map, option_or}
use Rattle.std.specs.FinMap.{get}
use Rattle.std.specs.Prelude.{nat_lt, if◌then◌else◌}
use Rattle.std.proofs.lemmas.Bool.{cond_both}
use Rattle.std.proofs.lemmas.List.Elements.{All-tail}
use Rattle.lg_gram.specs.EntryBounds.{IsEntryInBounds}
use Rattle.lg_gram.specs.EntryViews.{EntryView}
use Rattle.lg_gram.specs.Filled.{level_within, level_reached, highest}
use Rattle.lg_gram.specs.Limits.{LEVEL, COUNTED, SIDE_COUNTED, FORMULA_NODES, FORMULA_CHOICES, SIDE, POSITIONS}
use Rattle.lg_gram.specs.Measured.{longest_side, excess}
use Rattle.lg_gram.specs.Measures.{node_count, choice_count}
use Rattle.lg_gram.specs.RawTrees.{macros_of as references_of}
use Rattle.lg_gram.specs.Trees.{Tree}
use Rattle.lg_gram.specs.declared.edit.EditRefusal.{EditRefusal}
use Rattle.lg_gram.specs.declared.edit.EditRefusal.TheVariants.{UnknownMacro, TooDeep, NoSuchWord}
use Rattle.lg_gram.specs.declared.listing.Bound.{Bound}
use Rattle.lg_gram.specs.declared.listing.Bound.TheVariants.{TooManyWords, TooWide}
use Rattle.lg_gram.specs.declared.listing.Page.{Page}
use Rattle.lg_gram.specs.declared.listing.Token.{Token}
use Rattle.lg_gram.specs.declared.measures.Excess.TheVariants.{Nodes, Choices, Side}
use Rattle.lg_gram.specs.declared.reply.CommandKind.{CommandKind}
use Rattle.lg_gram.specs.declared.reply.Place.{Place}
use Rattle.lg_gram.specs.declared.reply.Reply.{Reply}
use Rattle.lg_gram.specs.declared.reply.Reply.TheVariants.{Published, Refused}
use Rattle.lg_dict.specs.Dictionary.{Dictionary, macros_of}
use Rattle.lg_edit.specs.Edits.{EditView, puts, sets, removes, IsEditInBounds, accept, accept_entry, level_in, formula_in, refuse_excess, unknown_macro, too_deep, too_large}
use Rattle.lg_export.specs.Exportable.{IsMacroToWrite, IsExportable}
use Rattle.lg_token.specs.Bounds.{LISTED_CHOICES, CHOICES_COUNTED, all_choices, bound_of}
use Rattle.lg_token.specs.Tokens.{AreTokens}
use Rattle.lg_script.specs.Bounds.{IsInBounds}
use Rattle.lg_script.specs.Commands.{CommandView, makes}
use Rattle.lg_script.specs.Histories.{reply_version, version_of}
use Rattle.lg_script.specs.Kinds.{kind_of}
use Rattle.lg_session.specs.Engines.{Meaning, Progress, start_of}
use Rattle.lg_session.specs.Legal.{Run, Holding, parse, list, AnswerIs, published, refused, version, listed, beyond, more, no_more, Answered, so_far, next}
use Rattle.lg_text.specs.Replies.{IsAnswerTo}
use Rattle.lg_text.specs.Shown.{IsPlainPage, IsPlainReply}
use Rattle.lg_audit.specs.Documents.{IsCauseInForm, IsBoundInForm}
use Rattle.lg_audit.specs.ShownAnswers.{IsSolidPage, IsSolidReply, IsBareMore}

-- ---- causes

either_form : {A : Type 0} (P : A → Type 0) (a b : Option A) → IfSome a P → IfSome b P → IfSome (option_or a b) P
either_form P None b p q = q
either_form P (Some x) b p q = p

module _ (dict : Dictionary) (can : IsExportable dict) where
  macro_low : (name : List ℕ) (found : Option (Tree × ℕ)) → IfSome found (IsMacroToWrite name) → level_within found ≤ LEVEL
  macro_low name None h = omega arith
  macro_low name (Some m) h = h.few

  reached_low : (level : ℕ) (ms : List (List ℕ × ℕ)) → All (λ m. m.1 ≤ level) ms → highest (map (level_reached (macros_of dict)) ms) ≤ level + 1 + LEVEL
  reached_low level [] h = omega arith
  reached_low level (m ∷ ms) h =
      let rest = reached_low level ms (All-tail (λ m. m.1 ≤ level) m ms h) in
      let here : m.1 ≤ level = h 0 m (omega arith) in
      let low = macro_low m.0 (macros_of dict m.0) (can.macros m.0) in
      omega arith

  level_small : (e : EntryView) → IsEntryInBounds e → level_in dict e < 2 ^ 32
  level_small e bounds =
      let rest = reached_low e.level (references_of e.expr) bounds.brackets in
      let low = bounds.level in
      omega arith

  unknown_form : (o : Option ℕ) → IfSome (option_map UnknownMacro o) IsCauseInForm
  unknown_form None = tt
  unknown_form (Some n) = tt

  deep_form : (n : ℕ) → n < 2 ^ 32 → IfSome (if nat_lt LEVEL n then Some (TooDeep n) else None) IsCauseInForm
  deep_form n small = cond_both (nat_lt LEVEL n) (Some (TooDeep n)) None (λ o. IfSome o IsCauseInForm) (λ _. small) (λ _. tt)

  large_form : (a b c : Bool) (nodes choices side : ℕ)
      → IfSome (option_map refuse_excess (if a then Some (Nodes (min nodes COUNTED)) else if b then Some (Choices (min choices COUNTED)) else if c then Some (Side (min side SIDE_COUNTED)) else None)) IsCauseInForm
  large_form true b c nodes choices side = omega arith
  large_form false true c nodes choices side = omega arith
  large_form false false true nodes choices side = omega arith
  large_form false false false nodes choices side = tt

  excess_form : (t : Tree) → IfSome (option_map refuse_excess (excess t)) IsCauseInForm
  excess_form t = large_form (nat_lt FORMULA_NODES (node_count t)) (nat_lt FORMULA_CHOICES (choice_count t)) (nat_lt SIDE (longest_side t)) (node_count t) (choice_count t) (longest_side t)

  entry_form : (e : EntryView) → IsEntryInBounds e → IfSome (accept_entry dict e) IsCauseInForm
  entry_form e bounds =
      either_form IsCauseInForm (unknown_macro dict e) _ (unknown_form _)
      (either_form IsCauseInForm (too_deep dict e) (too_large dict e) (deep_form (level_in dict e) (level_small e bounds)) (excess_form (formula_in dict e)))

  accept_form : (edit : EditView) → IsEditInBounds edit → IfSome (accept dict edit) IsCauseInForm
  accept_form (puts e) bounds = entry_form e bounds
  accept_form (sets e) bounds = entry_form e bounds
  accept_form (removes word) bounds = cond_both (is_some (get dict.words word)) None (Some NoSuchWord) (λ o. IfSome o IsCauseInForm) (λ _. tt) (λ _. tt)

  cause_form : (edit : EditView) (cause : EditRefusal) → IsEditInBounds edit → accept dict edit ≡ Some cause → IsCauseInForm cause
  cause_form edit cause bounds is = subst (λ o. IfSome o IsCauseInForm) is (accept_form edit bounds)

-- ---- bounds of sentences

bound_form : (a b : Bool) (words choices : ℕ) → words < 2 ^ 64
    → IfSome (if a then Some (TooManyWords words) else (if b then Some (TooWide (min choices CHOICES_COUNTED)) else None)) IsBoundInForm
bound_form true b words choices few = few
bound_form false true words choices few = omega arith
bound_form false false words choices few = tt

beyond_form : (dict : Dictionary) (tokens : List Token) (bound : Bound) → length tokens < 2 ^ 64 → bound_of dict tokens ≡ Some bound → IsBoundInForm bound
beyond_form dict tokens bound few is =
    subst (λ o. IfSome o IsBoundInForm) is (bound_form (nat_lt POSITIONS (length tokens)) (nat_lt LISTED_CHOICES (all_choices dict tokens)) (length tokens) (all_choices dict tokens) few)

-- ---- answers

-- an answer that a command of that kind may have, in form
pub record IsInForm (kind : CommandKind) (r : Reply) : Type 0 where
  pub answers : IsAnswerTo kind r
  pub bare : IsBareMore kind r
  pub solid : IsSolidReply r

published_answers : (edit : EditView) (n : ℕ) → IsAnswerTo (kind_of (makes edit)) (Published n)
published_answers (puts e) n = tt
published_answers (sets e) n = tt
published_answers (removes word) n = tt

refused_answers : (edit : EditView) (n : ℕ) (cause : EditRefusal) (name : List ℕ) → IsAnswerTo (kind_of (makes edit)) (Refused n cause name)
refused_answers (puts e) n cause name = tt
refused_answers (sets e) n cause name = tt
refused_answers (removes word) n cause name = tt

pub data AreInForm : List CommandView → List Reply → Type 0 where
  no_reply : (commands : List CommandView) → AreInForm commands []
  one_reply : (command : CommandView) (commands : List CommandView) (r : Reply) (rs : List Reply) → IsInForm (kind_of command) r → AreInForm commands rs → AreInForm (command ∷ commands) (r ∷ rs)

module _ (meaning : Meaning) (scripts : List (List CommandView)) (base : Dictionary) (journal : List Place) (few_edits : length journal < 2 ^ 64)
    (can : (n : ℕ) → IsExportable (version_of scripts base journal n))
    (few_tokens : (dict : Dictionary) (text : List ℕ) (tokens : List Token) → AreTokens dict text tokens → length tokens ≤ length text + 2)
    (near : (dict : Dictionary) (progress : Progress) (page : Page) → meaning.shows dict progress page → page.next - 1 ≤ progress.position + 1000000)
    (solid : (dict : Dictionary) (progress : Progress) (page : Page) → IsExportable dict → progress.position ≤ 2 ^ 62 → meaning.shows dict progress page → IsPlainPage progress.tokens page → IsSolidPage progress.tokens page) where
  abbrev run : Run
  run = record { meaning = meaning; scripts = scripts; base = base; journal = journal }

  -- before the command of that number a listing has come no further than this
  abbrev IsNear : ℕ → Option Holding → Type 0
  IsNear n None = Unit {0}
  IsNear n (Some h) = h.progress.position ≤ n * 1000000

  no_further : (n : ℕ) (held : Option Holding) → IsNear n held → IsNear (n + 1) held
  no_further n None h = tt
  no_further n (Some held) h = omega (arith, h)

  answer_form : (p : Place) (n : ℕ) (held after : Option Holding) (command : CommandView) (r : Reply) → 1 ≤ n → n ≤ 2 ^ 32 → AnswerIs run p held command r after → IsInBounds command → IsPlainReply r → reply_version r ≤ length journal
      → IsNear n held → IsInForm (kind_of command) r × IsNear (n + 1) after
  answer_form p n _ _ _ _ least most (published held edit v is) bounds plain there h =
      (record { answers = published_answers edit v; bare = tt; solid = omega (arith, there, few_edits) }, no_further n held h)
  answer_form p n _ _ _ _ least most (refused held edit v cause name is) bounds plain there h =
      (record { answers = refused_answers edit v cause name; bare = tt; solid = (omega (arith, there, few_edits), cause_form (version_of scripts base journal v) (can v) edit cause bounds.1 is.refused, plain) }, no_further n held h)
  answer_form p n _ _ _ _ least most (version held v) bounds plain there h = (record { answers = tt; bare = tt; solid = omega (arith, there, few_edits) }, no_further n held h)
  answer_form p n _ _ _ _ least most (listed held _ _ _ _ v tokens page stats (parse text) is shows counts) bounds plain there h =
      let start = start_of text None tokens 1 in
      let close = near (version_of scripts base journal v) start page shows in
      (record { answers = tt; bare = λ e. absurd (cc e); solid = (omega (arith, there, few_edits), solid (version_of scripts base journal v) start page (can v) (omega arith) shows plain) }, omega (arith, close, least))
  answer_form p n _ _ _ _ least most (listed held _ _ _ _ v tokens page stats (list first want text) is shows counts) bounds plain there h =
      let start = start_of text (Some want) tokens first in
      let close = near (version_of scripts base journal v) start page shows in
      let low : first ≤ 1000000 = bounds.0.1 in
      (record { answers = tt; bare = λ e. absurd (cc e); solid = (omega (arith, there, few_edits), solid (version_of scripts base journal v) start page (can v) (omega (arith, low)) shows plain) }, omega (arith, close, least, low))
  answer_form p n _ _ _ _ least most (beyond held _ _ _ _ v bound (parse text) is) bounds plain there h =
      let words = few_tokens (version_of scripts base journal v) text is.tokens is.of_text in
      let short = bounds.short in
      (record { answers = tt; bare = tt; solid = (omega (arith, there, few_edits), beyond_form (version_of scripts base journal v) is.tokens bound (omega (arith, words, short)) is.is_bound) }, tt)
  answer_form p n _ _ _ _ least most (beyond held _ _ _ _ v bound (list first want text) is) bounds plain there h =
      let words = few_tokens (version_of scripts base journal v) text is.tokens is.of_text in
      let short = bounds.2.short in
      (record { answers = tt; bare = tt; solid = (omega (arith, there, few_edits), beyond_form (version_of scripts base journal v) is.tokens bound (omega (arith, words, short)) is.is_bound) }, tt)
  answer_form p n _ _ _ _ least most (more held page shows) bounds plain there h =
      let close = near (version_of scripts base journal held.version) held.progress page shows in
      (record { answers = tt; bare = tt; solid = (omega (arith, there, few_edits), solid (version_of scripts base journal held.version) held.progress page (can held.version) (omega (arith, h, most)) shows plain) }, omega (arith, close, h))
  answer_form p n _ _ _ _ least most no_more bounds plain there h = (record { answers = tt; bare = tt; solid = tt }, tt)

  pub answers_form : (session n : ℕ) (held : Option Holding) (commands : List CommandView) (rs : List Reply) → Answered run session n held commands rs → 1 ≤ n → n + length commands ≤ 2 ^ 32
      → AllByRecursion IsInBounds commands → AllByRecursion IsPlainReply rs → AllByRecursion (λ (r : Reply). reply_version r ≤ length journal) rs → IsNear n held → AreInForm commands rs
  answers_form session _ _ _ _ (so_far n held commands) least few bounds plain there h = no_reply commands
  answers_form session _ _ _ _ (next n held after command commands r rs is rest) least few bounds plain there h =
      let here = answer_form (record { session = session; command = n }) n held after command r least (omega (arith, few)) is bounds.0 plain.0 there.0 h in
      one_reply command commands r rs here.0 (answers_form session (n + 1) after commands rs rest (omega arith) (omega (arith, few)) bounds.1 plain.1 there.1 here.1)
