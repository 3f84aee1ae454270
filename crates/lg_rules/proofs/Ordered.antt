-- Where the order of a side may fail.
use Rattle.std.proofs.Common.{ℕ, ◌<◌, ◌≤◌, Bool, true, false, length, refl, sym, subst, inl, inr, arith}
use Rattle.std.proofs.lemmas.Bool.{cases_lt}
use Rattle.lg_gram.specs.Linkages.{Linkage, link_length}
use Rattle.lg_gram.specs.Rules.{IsOrdered, HasLink, rights_of, lefts_of}
use Rattle.lg_gram.specs.declared.linkage.Link.{Link}
use Rattle.lg_rules.specs.Places.{ArePlaced, side_of}
use Rattle.lg_rules.specs.Verdicts.{OrderAt, IsAt}

-- what holds of the left and of the right holds of each side
pub of_sides : (P : Bool → Type 0) → P false → P true → (right : Bool) → P right
of_sides P left right false = left
of_sides P left right true = right

-- a place where a link stands is one of its side
pub place_within : (g : Linkage) → ArePlaced g → (i : ℕ) (right : Bool) (p : ℕ) (k : Link) → HasLink g k → IsAt right i p k → p < length (side_of g right i)
place_within g placed i true p k has at =
    subst (λ z. p < length (rights_of g z)) at.0 (subst (λ z. z < length (rights_of g k.left)) at.1 (placed k has).lplace)
place_within g placed i false p k has at =
    subst (λ z. p < length (lefts_of g z)) at.0 (subst (λ z. z < length (lefts_of g k.right)) at.1 (placed k has).rplace)

left_within : (g : Linkage) → ArePlaced g → (k : Link) → HasLink g k → k.left < length g.chosen
left_within g placed k has = let h = placed k has in let forward = h.forward in let within = h.within in omega arith

-- the ordering of a linkage whose positions are in order
pub ordered_from : (g : Linkage) → ArePlaced g → ((i : ℕ) → i < length g.chosen → (right : Bool) (p : ℕ) → OrderAt g i right p → ⊥) → IsOrdered (HasLink g)
ordered_from g placed none = record {
  on_right = λ k l has_k has_l same less. elim (cases_lt k.right l.right) [
    | inl nearer ↦ nearer
    | inr far ↦ (let longer : link_length l ≤ link_length k = omega arith in
        absurd (none k.left (left_within g placed k has_k) true k.lplace (k, l, has_k, has_l, (refl, refl), sym same, less, longer)))
  ];
  on_left = λ k l has_k has_l same less. elim (cases_lt l.left k.left) [
    | inl nearer ↦ nearer
    | inr far ↦ (let longer : link_length l ≤ link_length k = omega arith in
        absurd (none k.right ((placed k has_k).within) false k.rplace (k, l, has_k, has_l, (refl, refl), sym same, less, longer)))
  ];
}
