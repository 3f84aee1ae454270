-- What is shown of the positions is what they use: no two lists of choices are shown alike.
use Rattle.std.proofs.Common.{◌≡◌, ℕ, ◌+◌, List, [], ◌∷◌, Option, Some, None, refl, sym, ap, ◌∙◌, subst}
use Rattle.std.specs.FinMap.{get}
use Rattle.lg_gram.specs.Names.{NamesAreWritten}
use Rattle.lg_gram.specs.Connectors.{ConnectorsToldApart}
use Rattle.lg_gram.specs.Disjuncts.{IsDisjunctOf}
use Rattle.lg_gram.specs.Trees.{Tree}
use Rattle.lg_gram.specs.declared.disjunct.Disjunct.{Disjunct}
use Rattle.lg_gram.specs.declared.listing.Token.{Token}
use Rattle.lg_dict.specs.Dictionary.{Dictionary}
use Rattle.lg_token.specs.Problems.{IsOfWords}
use Rattle.lg_audit.specs.Lines.{ShownChoice, ShownWord}
use Rattle.lg_audit.specs.Replies.{shown_choice}
use Rattle.lg_audit.specs.Pages.{IsShownAt, AreShown, HasNamedWords, HaveNamedWords}
use Rattle.lg_audit.proofs.PrintedDisjuncts.{one_printed}

module _ (written : NamesAreWritten) (apart : ConnectorsToldApart) (dict : Dictionary) where
  -- two disjuncts of the words that are shown alike
  same_shown : (words : List (List ℕ)) → HasNamedWords dict words → (d e : Disjunct) → IsOfWords dict words d → IsOfWords dict words e → shown_choice d ≡ shown_choice e → d ≡ e
  same_shown words named d e is other same =
      let word : other.0 ≡ is.0 = sym other.4.named ∙ sym (ap (λ (c : ShownChoice). c.word) same) ∙ is.4.named in
      let tree : other.1 ≡ is.1 = (let have = ap (get dict.words) (sym word) ∙ other.3 in let got = is.3 in cc) in
      let alike = subst (λ (t : Tree). IsDisjunctOf is.0 t e) tree (subst (λ (w : List ℕ). IsDisjunctOf w other.1 e) word other.4) in
      one_printed written apart is.0 is.1 (named is.0 is.1 is.2 is.3) d e is.4 alike
      (ap (λ (c : ShownChoice). c.left) same) (ap (λ (c : ShownChoice). c.right) same) (ap (λ (c : ShownChoice). c.cost) same)

  one_use : (position : ℕ) (t : Token) (w : ShownWord) → HasNamedWords dict t.words → (o p : Option Disjunct) → IsShownAt dict position t w o → IsShownAt dict position t w p → o ≡ p
  one_use position t w named None None is other = refl
  one_use position t w named None (Some e) is other = let a = ap (λ (v : ShownWord). v.choice) (is.is ∙ sym other.is) in let no : ⊥ = cc in absurd no
  one_use position t w named (Some d) None is other = let a = ap (λ (v : ShownWord). v.choice) (is.is ∙ sym other.is) in let no : ⊥ = cc in absurd no
  one_use position t w named (Some d) (Some e) is other =
      let a = ap (λ (v : ShownWord). v.choice) (is.is ∙ sym other.is) in
      let same : shown_choice d ≡ shown_choice e = cc in
      ap Some (same_shown t.words named d e is.of_words other.of_words same)

  pub one_row : (position : ℕ) (ts : List Token) (ws : List ShownWord) → HaveNamedWords dict ts → (os ps : List (Option Disjunct)) → AreShown dict position ts ws os → AreShown dict position ts ws ps → os ≡ ps
  one_row position [] [] named [] [] is other = refl
  one_row position (t ∷ ts) (w ∷ ws) named (o ∷ os) (p ∷ ps) is other =
      let first = one_use position t w named.0 o p is.0 other.0 in
      let rest = one_row (position + 1) ts ws named.1 os ps is.1 other.1 in
      (λ i. first i ∷ rest i)
  one_row position [] [] named [] (p ∷ ps) is other = absurd other
  one_row position [] [] named (o ∷ os) ps is other = absurd is
  one_row position [] (w ∷ ws) named [] ps is other = absurd is
  one_row position [] (w ∷ ws) named (o ∷ os) ps is other = absurd is
  one_row position (t ∷ ts) [] named [] ps is other = absurd is
  one_row position (t ∷ ts) [] named (o ∷ os) ps is other = absurd is
  one_row position (t ∷ ts) (w ∷ ws) named [] ps is other = absurd is
  one_row position (t ∷ ts) (w ∷ ws) named (o ∷ os) [] is other = absurd other
