-- Chains that are sorted by word and start, and then each kept once.
use Rattle.std.proofs.Common.{◌≡◌, ◌↔◌, List, refl, sym, subst, true, is_eq, Less, Equal, Greater, rules}
use Rattle.std.specs.List.{Contains, dedup}
use Rattle.std.specs.List.Sorted.{IsSorted, IsPermutation, IsStrictlySortedBy}
use Rattle.std.specs.Ordering.{eq_by_cmp}
use Rattle.std.specs.Cmp.{IsTotalOrder}
use Rattle.std.specs.Cmp.Rules.{comparing}
use Rattle.std.specs.declared.cmp.Ordering.{Ordering}
use Rattle.std.proofs.lemmas.Cmp.{eq_by_cmp_equiv}
use Rattle.std.proofs.lemmas.List.Kept.{Any-dedup, Contains-from_dedup, IsStrictlySortedBy-dedup}
use Rattle.std.proofs.lemmas.List.Sorted.{Contains-permutation, IsPermutation-sym}
use Rattle.lg_idiom.specs.Idioms.{Chain, word_cmp}
use Rattle.lg_idiom.specs.Takings.{AreToldApart}

pub chains_total : IsTotalOrder word_cmp
chains_total = Prim.search (comparing, rules) depth 16

equal_if : (o : Ordering) → is_eq o ≡ true → o ≡ Equal
equal_if Less h = cc
equal_if Equal h = refl
equal_if Greater h = cc

-- what is kept of a sorted list rises
pub kept_rise : (sorted : List Chain) → IsSorted word_cmp sorted → IsStrictlySortedBy word_cmp (dedup (eq_by_cmp word_cmp) sorted)
kept_rise sorted order = IsStrictlySortedBy-dedup chains_total (λ x y. refl) sorted order

-- and has the chains that there were
module _ (all sorted : List Chain) (moved : IsPermutation all sorted) (one : AreToldApart all) where
  from_kept : (c : Chain) → Contains (dedup (eq_by_cmp word_cmp) sorted) c → Contains all c
  from_kept c m = Contains-permutation sorted all c (IsPermutation-sym all sorted moved) (Contains-from_dedup (eq_by_cmp word_cmp) sorted c m)

  to_kept : (c : Chain) → Contains all c → Contains (dedup (eq_by_cmp word_cmp) sorted) c
  to_kept c m =
      let (k, other, within, at, tie) = Any-dedup (eq_by_cmp_equiv chains_total) sorted c (Contains-permutation all sorted c moved m) in
      let kept : Contains (dedup (eq_by_cmp word_cmp) sorted) other = (k, within, at) in
      let is = one c other m (from_kept other kept) (equal_if (word_cmp c other) tie) in
      subst (λ x. Contains (dedup (eq_by_cmp word_cmp) sorted) x) (sym is) kept

  pub kept_same : (c : Chain) → Contains (dedup (eq_by_cmp word_cmp) sorted) c ↔ Contains all c
  kept_same c = (from_kept c, to_kept c)
