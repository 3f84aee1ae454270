-- What is recalled after one more entry.
use Rattle.std.proofs.Common.{◌≡◌, ◌⊎◌, ℕ, ◌<◌, false, if◌then◌else◌, List, [], ◌∷◌, ◌++◌, length, Option, None, Some, IfSome, IsSomeAnd, Bor, refl, sym, subst, arith, length-append}
use mathlib.Core.Logic.{⊎_elim}
use Rattle.std.specs.List.{list_any}
use Rattle.lg_gram.specs.Filled.{Formulas}
use Rattle.lg_gram.specs.Trees.{Tree, tree_of}
use Rattle.lg_gram.specs.declared.entry.Entry.{Entry}
use Rattle.lg_dictread.specs.Definitions.{same_text}
use Rattle.lg_dictread.specs.Reading.{entry_formula, formula_at}
use Rattle.lg_dictread.specs.Recalling.{Writes}
use Rattle.lg_dictread.proofs.Formulas.{number_more, written_same, written_now}

own_at : (formulas : Formulas) (t : Tree) (level : ℕ) (section : Option (Bor (List ℕ))) (text : List ℕ) → IsSomeAnd section (λ s. s.now ≡ text)
    → IfSome section (λ s. Writes formulas s.now t level) → Writes formulas text t level
own_at formulas t level None text is h = absurd is
own_at formulas t level (Some s) text is h = subst (λ (x : List ℕ). Writes formulas x t level) is h

module _ (entries : List Entry) (e : Entry) (section : Option (Bor (List ℕ))) (old now : List ℕ → Option ℕ) (number : ℕ) (at : number ≡ length entries)
    (low : (text : List ℕ) → IfSome (old text) (λ p. p < length entries)) where
  -- each text is recalled as before, or it is the section that is recalled from now on
  abbrev pub Recalls : Type 0
  Recalls = (text : List ℕ) → (now text ≡ old text) ⊎ ((now text ≡ Some number) × IsSomeAnd section (λ s. s.now ≡ text))

  low_same : (text : List ℕ) → IfSome (old text) (λ p. p < length (entries ++ e ∷ []))
  low_same text = number_more entries e number false (old text) at (low text)

  pub numbers_recalled : (macros : List (List ℕ)) → (0 < length macros → (text : List ℕ) → now text ≡ None) → (length macros ≡ 0 → Recalls) → (text : List ℕ) → IfSome (now text) (λ p. p < length (entries ++ e ∷ []))
  numbers_recalled [] forgets recalls text =
      ⊎_elim
      (λ same. subst (λ (o : Option ℕ). IfSome o (λ p. p < length (entries ++ e ∷ []))) (sym same) (low_same text))
      (λ (here, is). subst (λ (o : Option ℕ). IfSome o (λ p. p < length (entries ++ e ∷ []))) (sym here) (omega (arith, at, length-append entries (e ∷ []))))
      (recalls refl text)
  numbers_recalled (m ∷ ms) forgets recalls text = subst (λ (o : Option ℕ). IfSome o (λ p. p < length (entries ++ e ∷ []))) (sym (forgets (omega arith) text)) tt

  module _ (before after : Formulas) (written : (text : List ℕ) → IfSome (formula_at entries (old text)) (λ m. Writes before text m.0 m.1))
      (own : IfSome section (λ s. Writes before s.now (tree_of e.formula) e.level)) where
    pub written_more : (macros : List (List ℕ)) → after ≡ (λ name. if list_any (same_text name) macros then Some (entry_formula e) else before name)
        → (0 < length macros → (text : List ℕ) → now text ≡ None) → (length macros ≡ 0 → Recalls)
        → (text : List ℕ) → IfSome (formula_at (entries ++ e ∷ []) (now text)) (λ m. Writes after text m.0 m.1)
    written_more [] is forgets recalls text =
        subst (λ (f : Formulas). IfSome (formula_at (entries ++ e ∷ []) (now text)) (λ m. Writes f text m.0 m.1)) (sym is)
        (⊎_elim
        (λ same. written_same entries e (λ x m. Writes before x m.0 m.1) old now number at low written text same)
        (λ (here, some). written_now entries e (λ x m. Writes before x m.0 m.1) old now number at low written text here (own_at before (tree_of e.formula) e.level section text some own))
        (recalls refl text))
    written_more (m ∷ ms) is forgets recalls text =
        subst (λ (o : Option ℕ). IfSome (formula_at (entries ++ e ∷ []) o) (λ m. Writes after text m.0 m.1)) (sym (forgets (omega arith) text)) tt
