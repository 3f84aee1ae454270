-- The part of a linkage between two positions.
use Rattle.std.proofs.Common.{◌≡◌, ℕ, zero, suc, ◌+◌, ◌-◌, ◌<◌, ◌≤◌, inl, inr, refl, sym, ap, ◌∙◌, subst, true, false, not, ◌&&◌, List, [], ◌∷◌, length, get_or, Option, Some, None, IsSome, nat_lt, nat_le, ◌==◌, arith}
use Rattle.std.proofs.lemmas.Bool.{cases_lt}
use Rattle.std.proofs.lemmas.Bool.Decides.{nat_tests}
use Rattle.std.proofs.lemmas.List.Kept.{IsStrictlySortedBy-filter}
use Rattle.lg_gram.specs.Linkages.{Linkage, link_cmp}
use Rattle.lg_gram.specs.Rules.{chosen_at, HasLink, IsLinked, Belongs}
use Rattle.lg_gram.specs.declared.disjunct.Disjunct.{Disjunct}
use Rattle.lg_gram.specs.declared.linkage.Link.{Link}
use Rattle.lg_region.specs.Parts.{null_at, nulls_from, IsPart, choice_within, is_within, part_of}
use Rattle.lg_base.proofs.Elements.{filter_in, filter_out}

-- a link lies between L and R, and does not join these two
pub record LiesIn (L R : ℕ) (l : Link) : Type 0 where
  pub from : L ≤ l.left
  pub to : l.right ≤ R
  pub apart : l.left ≡ L → l.right ≡ R → ⊥

within_true : (a b c d : ℕ) → a ≤ b → c ≤ d → (b ≡ a → c ≡ d → ⊥) → (nat_le a b && (nat_le c d && not ((b == a) && (c == d)))) ≡ true
within_true a b c d x y z = grind (arith, nat_tests)

within_from : (a b c d : ℕ) → (nat_le a b && (nat_le c d && not ((b == a) && (c == d)))) ≡ true → a ≤ b
within_from a b c d x = grind (arith, nat_tests)

within_to : (a b c d : ℕ) → (nat_le a b && (nat_le c d && not ((b == a) && (c == d)))) ≡ true → c ≤ d
within_to a b c d x = grind (arith, nat_tests)

within_apart : (a b c d : ℕ) → (nat_le a b && (nat_le c d && not ((b == a) && (c == d)))) ≡ true → b ≡ a → c ≡ d → ⊥
within_apart a b c d x y z = grind (arith, nat_tests)

pub in_part : (L R : ℕ) (g : Linkage) (l : Link) → HasLink g l → LiesIn L R l → HasLink (part_of L R g) l
in_part L R g l h i = filter_in (is_within L R) g.links l h (within_true L l.left l.right R i.from i.to i.apart)

pub from_part : (L R : ℕ) (g : Linkage) (l : Link) → HasLink (part_of L R g) l → HasLink g l × LiesIn L R l
from_part L R g l h =
    let r = filter_out (is_within L R) g.links l h in
    (r.0, record { from = within_from L l.left l.right R r.1; to = within_to L l.left l.right R r.1; apart = within_apart L l.left l.right R r.1 })

test_in : (L R s : ℕ) → L < s → s < R → (nat_lt L s && nat_lt s R) ≡ true
test_in L R s x y = grind (arith, nat_tests)

test_out : (L R s : ℕ) → (L < s → s < R → ⊥) → (nat_lt L s && nat_lt s R) ≡ false
test_out L R s x = grind (arith, nat_tests)

choice_in : (s L R : ℕ) (os : List (Option Disjunct)) (i : ℕ) → L < s + i → s + i < R → get_or (choice_within s L R os) i None ≡ get_or os i None
choice_in s L R [] i x y = refl
choice_in s L R (o ∷ os) zero x y = rw (test_in L R s (omega arith) (omega arith)) refl
choice_in s L R (o ∷ os) (suc i) x y = choice_in (suc s) L R os i (omega arith) (omega arith)

choice_out : (s L R : ℕ) (os : List (Option Disjunct)) (i : ℕ) → (L < s + i → s + i < R → ⊥) → get_or (choice_within s L R os) i None ≡ None
choice_out s L R [] i x = refl
choice_out s L R (o ∷ os) zero x = rw (test_out L R s (λ a b. x (omega arith) (omega arith))) refl
choice_out s L R (o ∷ os) (suc i) x = choice_out (suc s) L R os i (λ a b. x (omega arith) (omega arith))

choice_length : (s L R : ℕ) (os : List (Option Disjunct)) → length (choice_within s L R os) ≡ length os
choice_length s L R [] = refl
choice_length s L R (o ∷ os) = ap suc (choice_length (suc s) L R os)

pub part_chosen : (L R : ℕ) (g : Linkage) (i : ℕ) → L < i → i < R → chosen_at (part_of L R g) i ≡ chosen_at g i
part_chosen L R g i x y = choice_in 0 L R g.chosen i (omega arith) (omega arith)

pub part_none : (L R : ℕ) (g : Linkage) (i : ℕ) → (L < i → i < R → ⊥) → chosen_at (part_of L R g) i ≡ None
part_none L R g i x = choice_out 0 L R g.chosen i (λ a b. x (omega arith) (omega arith))

-- what a part chooses, it chooses within
pub part_inside : (L R : ℕ) (g : Linkage) (i : ℕ) → IsLinked (part_of L R g) i → (L < i) × ((i < R) × IsLinked g i)
part_inside L R g i h =
    elim (cases_lt L i) [
      | inl a ↦ elim (cases_lt i R) [
        | inl b ↦ (a, (b, subst (λ z. IsSome z) (part_chosen L R g i a b) h))
        | inr b ↦ (let e = part_none L R g i (λ x y. absurd (omega arith)) in let c = subst (λ z. IsSome z) e h in absurd cc)
      ]
      | inr a ↦ (let e = part_none L R g i (λ x y. absurd (omega arith)) in let c = subst (λ z. IsSome z) e h in absurd cc)
    ]

pub part_linked : (L R : ℕ) (g : Linkage) (i : ℕ) → L < i → i < R → IsLinked g i → IsLinked (part_of L R g) i
part_linked L R g i a b h = subst (λ z. IsSome z) (sym (part_chosen L R g i a b)) h

none_some : {X : Type 0} (x : X) → ◌≡◌ {A = Option X} None (Some x) → ⊥
none_some x e = cc

pub part_belongs : (positions : List (List Disjunct)) (L R : ℕ) (g : Linkage) → Belongs positions g → IsPart positions L R (part_of L R g)
part_belongs positions L R g b = record {
  belongs = record {
    same_length = choice_length 0 L R g.chosen ∙ b.same_length;
    listed = λ i d e. elim (cases_lt L i) [
      | inl x ↦ elim (cases_lt i R) [
        | inl y ↦ b.listed i d (sym (part_chosen L R g i x y) ∙ e)
        | inr y ↦ absurd (none_some d (sym (part_none L R g i (λ p q. absurd (omega arith))) ∙ e))
      ]
      | inr x ↦ absurd (none_some d (sym (part_none L R g i (λ p q. absurd (omega arith))) ∙ e))
    ];
    set = IsStrictlySortedBy-filter link_cmp (is_within L R) g.links b.set;
  };
  inside = λ i h. let r = part_inside L R g i h in (r.0, r.1.0);
}

-- the numbers of unlinked positions
pub nulls_add : (g : Linkage) (s m n : ℕ) → nulls_from g s (m + n) ≡ nulls_from g s m + nulls_from g (s + m) n
nulls_add g s zero n = let e : 0 + n ≡ n = omega arith in let f : s + 0 ≡ s = omega arith in rw (e, f) (omega arith)
nulls_add g s (suc m) n =
    let e : suc m + n ≡ suc (m + n) = omega arith in
    let f : s + suc m ≡ suc s + m = omega arith in
    rw (e, f) (omega (arith, nulls_add g (suc s) m n))

pub nulls_same : (g h : Linkage) (s n : ℕ) → ((i : ℕ) → s ≤ i → i < s + n → chosen_at g i ≡ chosen_at h i) → nulls_from g s n ≡ nulls_from h s n
nulls_same g h s zero same = refl
nulls_same g h s (suc n) same =
    let e = ap null_at (same s (omega arith) (omega arith)) in
    omega (arith, nulls_same g h (suc s) n (λ i x y. same i (omega arith) (omega arith)))

null_few : (o : Option Disjunct) → null_at o ≤ 1
null_few None = omega arith
null_few (Some d) = omega arith

pub nulls_few : (g : Linkage) (s n : ℕ) → nulls_from g s n ≤ n
nulls_few g s zero = omega arith
nulls_few g s (suc n) = omega (arith, nulls_few g (suc s) n, null_few (chosen_at g s))

-- those of a region are those of its two parts
pub nulls_cut : (L W R : ℕ) (g : Linkage) (d : Disjunct) → L < W → W < R → chosen_at g W ≡ Some d
    → nulls_from g (suc L) (R - suc L) ≡ nulls_from (part_of L W g) (suc L) (W - suc L) + nulls_from (part_of W R g) (suc W) (R - suc W)
nulls_cut L W R g d lw wr e =
    let m : R - suc L ≡ (W - suc L) + suc (R - suc W) = omega arith in
    let t : suc L + (W - suc L) ≡ W = omega arith in
    let a = nulls_add g (suc L) (W - suc L) (suc (R - suc W)) in
    let z = ap null_at e in
    let b = nulls_same (part_of L W g) g (suc L) (W - suc L) (λ i x y. part_chosen L W g i (omega arith) (omega arith)) in
    let c = nulls_same (part_of W R g) g (suc W) (R - suc W) (λ i x y. part_chosen W R g i (omega arith) (omega arith)) in
    rw m (omega (arith, a, ap (λ x. nulls_from g x (suc (R - suc W))) t, z, b, c))
