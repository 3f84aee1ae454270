-- The linkage that numbers stand for.
use Rattle.std.proofs.Common.{◌≡◌, ℕ, List, [], length, get_or, Option, None, inl, inr, sym, ◌∙◌, subst, arith}
use Rattle.std.proofs.lemmas.Bool.{cases_lt}
use Rattle.std.proofs.lemmas.List.{get_or_past}
use Rattle.lg_gram.specs.Linkages.{Linkage}
use Rattle.lg_gram.specs.declared.disjunct.Disjunct.{Disjunct}
use Rattle.lg_gram.specs.declared.linkage.Link.{Link}
use Rattle.lg_rank.specs.Meanings.{IsCodeOf, IsPacked, AreCodesOf}
use Rattle.lg_rank.specs.Values.{Value}
use Rattle.lg_rank.proofs.Packing.{Coded, choices_apart}

coded_all : (positions : List (List Disjunct)) (os : List (Option Disjunct)) (codes : List ℕ) → AreCodesOf positions os codes → Coded (λ i. get_or positions i []) os codes
coded_all positions os codes is i =
    elim (cases_lt i (length codes)) [
      | inl less ↦ is.each i less
      | inr more ↦ (
          let o : get_or os i None ≡ None = get_or_past os i None (let e = is.long in omega arith) in
          let n : get_or codes i 0 ≡ 0 = get_or_past codes i 0 more in
          subst (λ (t : Option Disjunct). IsCodeOf (get_or positions i []) t (get_or codes i 0)) (sym o) n)
    ]

pub unpacked : (positions : List (List Disjunct)) (g : Linkage) (v : Value) (os : List (Option Disjunct)) (links : List Link) (codes : List ℕ) → AreCodesOf positions os codes → codes ≡ v.choices → links ≡ v.links → IsPacked positions g v → ◌≡◌ {A = Linkage} (record { chosen = os; links = links }) g
unpacked positions g v os links codes is e f p =
    let is' : AreCodesOf positions os v.choices = subst (λ (t : List ℕ). AreCodesOf positions os t) e is in
    let chosen = choices_apart (λ i. get_or positions i []) os g.chosen v.choices (is'.long ∙ p.long) (coded_all positions os v.choices is') p.choices in
    λ k. record { chosen = chosen k; links = (f ∙ p.links) k }
