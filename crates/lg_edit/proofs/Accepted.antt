-- What it means that an entry is accepted, or refused for one cause.
use Rattle.std.proofs.Common.{◌≡◌, ℕ, ◌^◌, ◌<◌, ◌≤◌, min, List, [], length, Bool, true, false, if◌then◌else◌, Option, Some, None, is_some, is_none, refl, sym, ap, ◌∙◌, true≢false, arith}
use Rattle.std.proofs.lemmas.Bool.{lt-ltb, le-ltb, ltb-false}
use Rattle.std.proofs.lemmas.List.{length-map}
use Rattle.std.proofs.lemmas.List.Quantifiers.{position-Some}
use Rattle.std.specs.List.{position}
use Rattle.std.specs.Option.{option_map, option_or, unwrap_or}
use Rattle.std.specs.Prelude.{nat_lt}
use Rattle.lg_gram.specs.EntryBounds.{IsEntryInBounds}
use Rattle.lg_gram.specs.Filled.{is_unknown, macro_names}
use Rattle.lg_gram.specs.Fits.{AllFit, FilledFits}
use Rattle.lg_gram.specs.Formulas.{IsFormula}
use Rattle.lg_gram.specs.Limits.{REFERENCES_COUNTED, LEVEL, LEVEL_COUNTED, FORMULA_NODES, FORMULA_CHOICES, SIDE}
use Rattle.lg_gram.specs.Measured.{IsSmall, longest_side, excess}
use Rattle.lg_gram.specs.Measures.{node_count, choice_count}
use Rattle.lg_gram.specs.RawTrees.{macros_of}
use Rattle.lg_gram.specs.Trees.{Tree}
use Rattle.lg_gram.specs.declared.edit.EditRefusal.TheVariants.{UnknownMacro, TooDeep}
use Rattle.lg_gram.specs.EntryViews.{EntryView}
use Rattle.lg_dict.specs.Dictionary.{Dictionary, macros_of as formulas_of}
use Rattle.lg_edit.specs.Edits.{EditView, accept, edited, after_edit, unknown_macro, too_deep, too_large, accept_entry, formula_in, level_in, refuse_excess}
use Rattle.lg_edit.proofs.Bounds.{level_low, entry_fits, formula_within}

-- ---- options and tests

some_none : {A : Type 0} (x : A) → Some x ≡ None → ⊥
some_none x h = true≢false (ap is_some h)

none_of_three : {A : Type 0} (a b c : Option A) → option_or a (option_or b c) ≡ None → (a ≡ None) × (b ≡ None) × (c ≡ None)
none_of_three None None None h = (refl, refl, refl)
none_of_three None None (Some x) h = absurd (some_none x h)
none_of_three None (Some x) c h = absurd (some_none x h)
none_of_three (Some x) b c h = absurd (some_none x h)

map_none : {A B : Type 0} (f : A → B) (o : Option A) → option_map f o ≡ None → o ≡ None
map_none f None h = refl
map_none f (Some x) h = absurd (some_none (f x) h)

else_none : {A : Type 0} (b : Bool) (x : A) (rest : Option A) → (if b then Some x else rest) ≡ None → (b ≡ false) × (rest ≡ None)
else_none true x rest h = absurd (some_none x h)
else_none false x rest h = (refl, h)

within : (limit n : ℕ) → nat_lt limit n ≡ false → n ≤ limit
within limit n h = ltb-false limit n h

beyond : {A : Type 0} (limit n : ℕ) (x : A) → limit < n → (if nat_lt limit n then Some x else None) ≡ Some x
beyond limit n x h = ap (λ b. if b then Some x else None) (lt-ltb limit n h)

not_beyond : {A : Type 0} (limit n : ℕ) (x : A) → n ≤ limit → (if nat_lt limit n then Some x else None) ≡ None
not_beyond limit n x low = ap (λ b. if b then Some x else None) (le-ltb limit n low)

-- ---- the first unknown macro

module _ (p : List ℕ → Bool) (xs : List (List ℕ)) (few : length xs < 2 ^ 32) where
  uncapped : (number : ℕ) (found : Option ℕ) → position p xs ≡ found → option_map (λ n. min n REFERENCES_COUNTED) found ≡ Some number → position p xs ≡ Some number
  uncapped number None is h = absurd (some_none number (sym h))
  uncapped number (Some n) is h =
      let low = (position-Some p xs n [] is).0 in
      let same : min n REFERENCES_COUNTED ≡ number = ap (λ o. unwrap_or o 0) h in
      is ∙ ap Some (omega arith)

module _ (dict : Dictionary) (e : EntryView) (bounds : IsEntryInBounds e) where
  few_names : length (macro_names e.expr) < 2 ^ 32
  few_names = let same = length-map (macros_of e.expr) (λ (m : List ℕ × ℕ). m.0) in let few = bounds.references in omega arith

  abbrev first : Option ℕ
  first = position (is_unknown (formulas_of dict)) (macro_names e.expr)

  pub refused_unknown : (number : ℕ) → Some number ≡ option_map (λ n. min n REFERENCES_COUNTED) first → Some (UnknownMacro number) ≡ accept_entry dict e
  refused_unknown number h =
      sym (ap (λ o. option_or (option_map UnknownMacro o) (option_or (too_deep dict e) (too_large dict e)))
      (uncapped (is_unknown (formulas_of dict)) (macro_names e.expr) few_names number first refl (sym h)))

  pub all_known : None ≡ option_map (λ n. min n REFERENCES_COUNTED) first → accept_entry dict e ≡ option_or (too_deep dict e) (too_large dict e)
  all_known h = ap (λ o. option_or (option_map UnknownMacro o) (option_or (too_deep dict e) (too_large dict e))) (map_none (λ n. min n REFERENCES_COUNTED) first (sym h))

  module _ (all_fit : AllFit (formulas_of dict)) where
    pub level_counted : (level : ℕ) → level ≡ min (level_in dict e) LEVEL_COUNTED → level ≡ level_in dict e
    level_counted level is = let low = level_low (formulas_of dict) all_fit e bounds in omega arith

    pub refused_deep : (level : ℕ) → level ≡ level_in dict e → LEVEL < level → Some (TooDeep level) ≡ option_or (too_deep dict e) (too_large dict e)
    refused_deep level is deep =
        ap (λ n. Some (TooDeep n)) is
        ∙ sym (ap (λ o. option_or o (too_large dict e)) (beyond LEVEL (level_in dict e) (TooDeep (level_in dict e)) (omega arith)))

    pub not_deep : (level : ℕ) → level ≡ level_in dict e → level ≤ LEVEL → option_or (too_deep dict e) (too_large dict e) ≡ too_large dict e
    not_deep level is low = ap (λ o. option_or o (too_large dict e)) (not_beyond LEVEL (level_in dict e) (TooDeep (level_in dict e)) (omega arith))

-- ---- an entry that is accepted

small_by : (t : Tree) → excess t ≡ None → IsSmall t
small_by t h =
    let nodes = else_none (nat_lt FORMULA_NODES (node_count t)) _ _ h in
    let choices = else_none (nat_lt FORMULA_CHOICES (choice_count t)) _ _ nodes.1 in
    let side = else_none (nat_lt SIDE (longest_side t)) _ _ choices.1 in
    record {
      nodes = within FORMULA_NODES (node_count t) nodes.0;
      choices = within FORMULA_CHOICES (choice_count t) choices.0;
      side = within SIDE (longest_side t) side.0;
    }

module _ (dict : Dictionary) (e : EntryView) (bounds : IsEntryInBounds e) (all_fit : AllFit (formulas_of dict)) (accepted : accept_entry dict e ≡ None) where
  abbrev causes : (unknown_macro dict e ≡ None) × (too_deep dict e ≡ None) × (too_large dict e ≡ None)
  causes = none_of_three (unknown_macro dict e) (too_deep dict e) (too_large dict e) accepted

  pub accepted_fits : FilledFits (formulas_of dict) e.level e.expr
  accepted_fits = entry_fits (formulas_of dict) all_fit e bounds (within LEVEL (level_in dict e) (else_none (nat_lt LEVEL (level_in dict e)) _ _ causes.1).0)

  pub accepted_formula : IsFormula (formula_in dict e)
  accepted_formula = formula_within (level_in dict e) (formula_in dict e) (small_by (formula_in dict e) (map_none refuse_excess (excess (formula_in dict e)) causes.2)) accepted_fits

-- what an accepted edit makes
pub made : (dict : Dictionary) (edit : EditView) → accept dict edit ≡ None → edited dict edit ≡ after_edit dict edit
made dict edit accepted = sym (ap (λ o. if is_none o then edited dict edit else dict) accepted)
