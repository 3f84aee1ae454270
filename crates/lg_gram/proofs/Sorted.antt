-- Linkages of one problem that are sorted, and then each kept once.
use Rattle.std.proofs.Common.{◌≡◌, ◌↔◌, List, refl, sym, subst, true, is_eq, Less, Equal, Greater}
use Rattle.std.specs.List.{Contains, dedup}
use Rattle.std.specs.List.Sorted.{IsSorted, IsPermutation, IsStrictlySortedBy}
use Rattle.std.specs.Ordering.{eq_by_cmp}
use Rattle.std.specs.declared.cmp.Ordering.{Ordering}
use Rattle.std.proofs.lemmas.Cmp.{eq_by_cmp_equiv}
use Rattle.std.proofs.lemmas.List.Kept.{Any-dedup, Contains-from_dedup, IsStrictlySortedBy-dedup}
use Rattle.std.proofs.lemmas.List.Sorted.{Contains-permutation, IsPermutation-sym}
use Rattle.lg_gram.specs.Linkages.{Linkage, linkage_cmp}
use Rattle.lg_gram.specs.Levels.{AreOfOneProblem}
use Rattle.lg_gram.proofs.Orders.{linkages_total}
use Rattle.lg_gram.proofs.Exact.{same_linkage}

equal_if : (o : Ordering) → is_eq o ≡ true → o ≡ Equal
equal_if Less h = cc
equal_if Equal h = refl
equal_if Greater h = cc

-- what is kept of a sorted list rises
pub kept_rise : (sorted : List Linkage) → IsSorted linkage_cmp sorted → IsStrictlySortedBy linkage_cmp (dedup (eq_by_cmp linkage_cmp) sorted)
kept_rise sorted order = IsStrictlySortedBy-dedup linkages_total (λ x y. refl) sorted order

-- and has the linkages that there were
module _ (all sorted : List Linkage) (moved : IsPermutation all sorted) (one : AreOfOneProblem all) where
  from_kept : (g : Linkage) → Contains (dedup (eq_by_cmp linkage_cmp) sorted) g → Contains all g
  from_kept g m = Contains-permutation sorted all g (IsPermutation-sym all sorted moved) (Contains-from_dedup (eq_by_cmp linkage_cmp) sorted g m)

  to_kept : (g : Linkage) → Contains all g → Contains (dedup (eq_by_cmp linkage_cmp) sorted) g
  to_kept g m =
      let (k, other, within, at, tie) = Any-dedup (eq_by_cmp_equiv linkages_total) sorted g (Contains-permutation all sorted g moved m) in
      let kept : Contains (dedup (eq_by_cmp linkage_cmp) sorted) other = (k, within, at) in
      let is = same_linkage one.positions g other one.is_problem (one.each g m) (one.each other (from_kept other kept)) (equal_if (linkage_cmp g other) tie) in
      subst (λ x. Contains (dedup (eq_by_cmp linkage_cmp) sorted) x) (sym is) kept

  pub kept_same : (g : Linkage) → Contains (dedup (eq_by_cmp linkage_cmp) sorted) g ↔ Contains all g
  kept_same g = (from_kept g, to_kept g)
