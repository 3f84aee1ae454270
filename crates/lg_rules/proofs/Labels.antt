-- What labels of islands say of the linked positions of a linkage.
use Rattle.std.proofs.Common.{◌≡◌, ◌≢◌, ℕ, ◌<◌, ◌≤◌, length, get_or, Option, Some, None, sym, ◌∙◌, subst, inl, inr, ◌↔◌, All, arith}
use Rattle.std.specs.Prelude.{IfSome, IfNone}
use Rattle.std.proofs.lemmas.Bool.{cases_lt}
use Rattle.std.proofs.lemmas.List.{get_or_past}
use Rattle.std.proofs.lemmas.List.Elements.{Contains-get_or}
use Rattle.lg_gram.specs.Linkages.{Linkage}
use Rattle.lg_gram.specs.Rules.{HasLink, IsLinked, IsConnected}
use Rattle.lg_gram.specs.Walks.{LinkFrom}
use Rattle.lg_walks.specs.Islands.{IsWithin, IsJoined}
use Rattle.lg_rules.specs.Least.{IsLeast}
use Rattle.lg_rules.specs.Places.{ArePlaced}
use Rattle.lg_rules.specs.Verdicts.{ApartAt, IsFirstLinked}

linked_within : (g : Linkage) (i : ℕ) → IsLinked g i → i < length g.chosen
linked_within g i linked = elim (cases_lt i (length g.chosen)) [
  | inl within ↦ within
  | inr past ↦ absurd (let e = get_or_past g.chosen i None past in let h = rw e at linked in cc)
]

pub ends_within : (g : Linkage) → ArePlaced g → (n : ℕ) → length g.chosen ≤ n → All (IsWithin n) g.links
ends_within g placed n few k d less =
    let h = placed (get_or g.links k d) (Contains-get_or g.links k d less) in
    let forward = h.forward in
    let within = h.within in
    (omega arith, omega arith)

one_first : (g : Linkage) (a b : ℕ) → IsFirstLinked g a → IsFirstLinked g b → a ≡ b
one_first g a b first_a first_b = elim (cases_lt a b) [
  | inl less ↦ absurd (first_b.least a less first_a.linked)
  | inr more ↦ elim (cases_lt b a) [ inl less ↦ absurd (first_a.least b less first_b.linked) | inr same ↦ omega arith ]
]

-- the labels f tell the walks, and the first linked position is named
module _ (g : Linkage) (n : ℕ) (few : length g.chosen ≤ n) (f : ℕ → ℕ) (tell : (a b : ℕ) → a < n → b < n → (f a ≡ f b) ↔ IsJoined g.links a b) (first : ℕ) (is_first : IsFirstLinked g first) where
  below : (i : ℕ) → IsLinked g i → i < n
  below i linked = let h = linked_within g i linked in omega arith

  apart_to : (i : ℕ) → IsLinked g i × (f i ≢ f first) → ApartAt g i
  apart_to i h = (h.0, (first, is_first, λ walk. h.1 (sym ((tell first i (below first is_first.linked) (below i h.0)).1 walk))))

  apart_from : (i : ℕ) → ApartAt g i → IsLinked g i × (f i ≢ f first)
  apart_from i h = (
    h.0,
    λ same. h.1.2 (subst (λ z. IsJoined g.links z i) (one_first g first h.1.0 is_first h.1.1)
        ((tell first i (below first is_first.linked) (below i h.0)).0 (sym same))),
  )

  pub apart_least : (o : Option ℕ) → IfSome o (IsLeast (λ i. IsLinked g i × (f i ≢ f first))) → IfSome o (IsLeast (ApartAt g))
  apart_least None h = h
  apart_least (Some i) h = record { here = apart_to i h.here; earlier = λ k less case. h.earlier k less (apart_from k case) }

  connected_from : ((i : ℕ) → IsLinked g i → f i ≡ f first) → IsConnected (IsLinked g) (LinkFrom (HasLink g))
  connected_from same i j linked_i linked_j = (tell i j (below i linked_i) (below j linked_j)).0 (same i linked_i ∙ sym (same j linked_j))

  pub connected_none : (o : Option ℕ) → IfNone o ((i : ℕ) → IsLinked g i → f i ≡ f first) → IfNone o (IsConnected (IsLinked g) (LinkFrom (HasLink g)))
  connected_none None h = connected_from h
  connected_none (Some i) h = h
