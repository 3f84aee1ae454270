-- The connectors of a side, in turn: which of them have their links.
use Rattle.std.proofs.Common.{◌≡◌, ℕ, ◌<◌, ◌≤◌, ◌+◌, Bool, true, false, List, length, get_or, Option, Some, None, refl, ap, subst, inl, inr, arith}
use Rattle.std.specs.Prelude.{slice_get, if◌then◌else◌}
use Rattle.std.specs.List.{count_by}
use Rattle.std.specs.List.Sorted.{IsStrictlySortedBy}
use Rattle.std.specs.Cmp.{IsTotalOrder}
use Rattle.std.proofs.lemmas.Bool.{cases_lt}
use Rattle.std.proofs.lemmas.List.{get_or_past}
use Rattle.std.proofs.lemmas.Option.{slice_get_within, slice_get_read}
use Rattle.lg_gram.specs.Connectors.{Connector}
use Rattle.lg_gram.specs.Linkages.{Linkage, link_cmp}
use Rattle.lg_gram.specs.Rules.{IsSatisfied, HasLink, chosen_at, left_list, right_list, rights_of, lefts_of}
use Rattle.lg_gram.specs.declared.disjunct.Disjunct.{Disjunct}
use Rattle.lg_rules.specs.Least.{IsLeast}
use Rattle.lg_rules.specs.Places.{side_of}
use Rattle.lg_rules.specs.Checks.{is_at, IsCount, AreServed}
use Rattle.lg_rules.specs.Verdicts.{UnsatisfiedAt}
use Rattle.lg_rules.proofs.Counts.{served_from_count, unserved_from_count, served_once}

-- the connector has as many links at place p as it may
abbrev HasItsCount : Linkage → ℕ → Bool → ℕ → Connector → Type 0
HasItsCount g i right p c = IsCount c.multi (count_by (is_at right i p) g.links)

abbrev HaveTheirCounts : Linkage → ℕ → Bool → ℕ → Type 0
HaveTheirCounts g i right m = (p : ℕ) (c : Connector) → p < m → slice_get (side_of g right i) p ≡ Some c → HasItsCount g i right p c

-- the loop over the connectors cs of a side, at place m
module _ (g : Linkage) (i : ℕ) (right : Bool) (cs : List Connector) (is : cs ≡ side_of g right i) (m : ℕ) (before : HaveTheirCounts g i right m) where
  connector_at : (c : Connector) → m < length cs → c ≡ get_or cs m c → slice_get (side_of g right i) m ≡ Some c
  connector_at c within read = subst (λ z. slice_get z m ≡ Some c) is (slice_get_read cs (length cs) m c refl within read)

  pub unsatisfied_least : IsTotalOrder link_cmp → IsStrictlySortedBy link_cmp g.links → (c : Connector) → m < length cs → c ≡ get_or cs m c →
      (HasItsCount g i right m c → ⊥) → IsLeast (UnsatisfiedAt g i right) m
  unsatisfied_least total rise c within read fails = record {
    here = (c, connector_at c within read, unserved_from_count g.links i right m c total rise fails);
    earlier = λ p less case. served_once g.links i right p case.0 (served_from_count g.links i right p case.0 (before p case.0 less case.1)) case.2;
  }

  pub counts_more : (c : Connector) → m < length cs → c ≡ get_or cs m c → HasItsCount g i right m c → HaveTheirCounts g i right (m + 1)
  counts_more c within read holds p d less at =
      elim (cases_lt p m) [
        | inl earlier ↦ before p d earlier at
        | inr last ↦
            let same : m ≡ p = omega arith in
            let here : slice_get (side_of g right i) p ≡ Some c = subst (λ z. slice_get (side_of g right i) z ≡ Some c) same (connector_at c within read) in
            let one : c ≡ d = cc in
            subst (λ z. HasItsCount g i right p z) one (subst (λ z. HasItsCount g i right z c) same holds)
      ]

  pub side_served : length cs ≤ m → AreServed g i right
  side_served past p c at =
      let within = slice_get_within (side_of g right i) p c at in
      let same : length cs ≡ length (side_of g right i) = ap length is in
      served_from_count g.links i right p c (before p c (omega arith) at)

-- a side that is served has no case
pub served_side : (g : Linkage) (i : ℕ) (right : Bool) → AreServed g i right → (p : ℕ) → UnsatisfiedAt g i right p → ⊥
served_side g i right served p case = served_once g.links i right p case.0 (served p case.0 case.1) case.2

unlinked_side : (right : Bool) (o : Option Disjunct) (p : ℕ) (c : Connector) → o ≡ None → slice_get (if right then right_list o else left_list o) p ≡ Some c → ⊥
unlinked_side true None p c e at = cc
unlinked_side true (Some d) p c e at = cc
unlinked_side false None p c e at = cc
unlinked_side false (Some d) p c e at = cc

-- positions past the end have no connectors
sides_past : (g : Linkage) (i p : ℕ) (right : Bool) (c : Connector) → length g.chosen ≤ i → slice_get (side_of g right i) p ≡ Some c → ⊥
sides_past g i p right c past at = unlinked_side right (chosen_at g i) p c (get_or_past g.chosen i None past) at

pub satisfied_from : (g : Linkage) → ((i : ℕ) → i < length g.chosen → (right : Bool) → AreServed g i right) → IsSatisfied (rights_of g) (lefts_of g) (HasLink g)
satisfied_from g served = record {
  on_right = λ i p c at. elim (cases_lt i (length g.chosen)) [ inl within ↦ served i within true p c at | inr past ↦ absurd (sides_past g i p true c past at) ];
  on_left = λ i p c at. elim (cases_lt i (length g.chosen)) [ inl within ↦ served i within false p c at | inr past ↦ absurd (sides_past g i p false c past at) ];
}
