-- How far apart a link's ends may be: where it is the nearest of both, all words between are unlinked.
use Rattle.std.proofs.Common.{◌≡◌, ℕ, zero, suc, ◌+◌, ◌-◌, ◌<◌, ◌≤◌, List, [], ◌∷◌, length, get_or, refl, sym, ap, ◌∙◌, subst, Option, Some, None, IsSome, is_none, inl, inr, true, false, cond, count_by, arith}
use Rattle.std.proofs.lemmas.Bool.{cases_lt}
use Rattle.std.proofs.lemmas.List.Sums.{sum_by-cons}
use Rattle.lg_gram.specs.Linkages.{Linkage, unlinked, link_length}
use Rattle.lg_gram.specs.Rules.{chosen_at, left_list, right_list, HasLink, IsLinked}
use Rattle.lg_gram.specs.Walks.{Walk, stay, forth, back, LinkFrom}
use Rattle.lg_gram.specs.declared.disjunct.Disjunct.{Disjunct}
use Rattle.lg_gram.specs.declared.linkage.Link.{Link}
use Rattle.lg_member.proofs.Linked.{linked_at}
use Rattle.lg_sharpen.specs.Bounds.{Fits, IsNearest}

some_is : (o : Option Disjunct) (d : Disjunct) → o ≡ Some d → IsSome o
some_is o d e = subst (λ z. IsSome z) (sym e) refl

pub none_since : (o : Option Disjunct) → (IsSome o → ⊥) → o ≡ None
none_since None n = refl
none_since (Some d) n = absurd (n refl)

-- that many positions are unlinked
between_count : (os : List (Option Disjunct)) (i j : ℕ) → j ≤ length os → ((k : ℕ) → i ≤ k → k < j → get_or os k None ≡ None) → j - i ≤ count_by is_none os
between_count [] i j h n = omega arith
between_count (o ∷ os) i zero h n = omega arith
between_count (o ∷ os) zero (suc j) h n =
    let e : o ≡ None = n zero (omega arith) (omega arith) in
    let all : count_by is_none (o ∷ os) ≡ 1 + count_by is_none os =
    sum_by-cons (λ (x : Option Disjunct). cond (is_none x) 1 0) o os ∙ ap (λ (z : Option Disjunct). cond (is_none z) 1 0 + count_by is_none os) e in
    let r = between_count os zero j (omega arith) (λ k a b. n (suc k) (omega arith) (omega arith)) in
    omega arith
between_count (o ∷ os) (suc i) (suc j) h n =
    let all : count_by is_none (o ∷ os) ≡ cond (is_none o) 1 0 + count_by is_none os = sum_by-cons (λ x. cond (is_none x) 1 0) o os in
    let r = between_count os i j (omega arith) (λ k a b. n (suc k) (omega arith) (omega arith)) in
    omega arith

-- what a walk from a position between two ends comes to lies between them, where each edge keeps it
walk_keeps : (E : ℕ → ℕ → Type 0) (P : ℕ → Type 0) → ((a b : ℕ) → E a b → P a → P b) → ((a b : ℕ) → E a b → P b → P a) → (a b : ℕ) → Walk E a b → P a → P b
walk_keeps E P there back' a b (stay i) h = h
walk_keeps E P there back' a b (forth i k j e w) h = walk_keeps E P there back' k j w (there i k e h)
walk_keeps E P there back' a b (back i k j e w) h = walk_keeps E P there back' k j w (back' k i e h)

abbrev Between : Link → ℕ → Type 0
Between l k = (l.left < k) × (k < l.right)

-- a link that is the nearest of both its ends
record IsLone (g : Linkage) (l : Link) : Type 0 where
  pub has : HasLink g l
  pub left : IsNearest g true l
  pub right : IsNearest g false l

goes_right : (most : ℕ) (g : Linkage) → Fits most g → (l : Link) → IsLone g l → (e : Link) → HasLink g e → Between l e.left → Between l e.right
goes_right most g f l n e he b =
    let b0 = b.0 in
    let b1 = b.1 in
    let w = f.rules.matched.forward e he in
    elim (cases_lt e.right l.right) [
      | inl h ↦ (omega arith, h)
      | inr h ↦ elim (cases_lt l.right e.right) [
        | inl far ↦ absurd (f.rules.planar l e n.has he b0 b1 far)
        | inr near ↦ (let same : e.right ≡ l.right = omega arith in let q : l.right - l.left ≤ e.right - e.left = n.right e he same in absurd (omega arith))
      ]
    ]

goes_left : (most : ℕ) (g : Linkage) → Fits most g → (l : Link) → IsLone g l → (e : Link) → HasLink g e → Between l e.right → Between l e.left
goes_left most g f l n e he b =
    let b0 = b.0 in
    let b1 = b.1 in
    let w = f.rules.matched.forward e he in
    elim (cases_lt l.left e.left) [
      | inl h ↦ (h, omega arith)
      | inr h ↦ elim (cases_lt e.left l.left) [
        | inl far ↦ absurd (f.rules.planar e l he n.has far b0 b1)
        | inr near ↦ (let same : e.left ≡ l.left = omega arith in let q : l.right - l.left ≤ e.right - e.left = n.left e he same in absurd (omega arith))
      ]
    ]

all_unlinked : (most : ℕ) (g : Linkage) → Fits most g → (l : Link) → IsLone g l → IsLinked g l.left → (k : ℕ) → l.left + 1 ≤ k → k < l.right → chosen_at g k ≡ None
all_unlinked most g f l n end k a b =
    none_since (chosen_at g k) (λ linked.
    let walk = f.connected k l.left linked end in
    let r = walk_keeps (LinkFrom (HasLink g)) (Between l)
    (λ x y e h. subst (λ z. Between l z) e.3 (goes_right most g f l n e.0 e.1 (subst (λ z. Between l z) (sym e.2) h)))
    (λ x y e h. subst (λ z. Between l z) e.2 (goes_left most g f l n e.0 e.1 (subst (λ z. Between l z) (sym e.3) h))) k l.left walk (omega arith, b) in
    let s = r.0 in
    omega arith)

pub is_short : (most : ℕ) (g : Linkage) → Fits most g → (l : Link) → HasLink g l → IsNearest g true l → IsNearest g false l → link_length l ≤ most
is_short most g f l has nl nr =
    let j = f.rules.matched.joins l has in
    let left = linked_at right_list refl g.chosen l.left l.lplace j.0 j.2 in
    let right = linked_at left_list refl g.chosen l.right l.rplace j.1 j.3 in
    let inside = right.2 in
    let n : IsLone g l = record { has = has; left = nl; right = nr } in
    let c : l.right - (l.left + 1) ≤ unlinked g = between_count g.chosen (l.left + 1) l.right (omega arith) (all_unlinked most g f l n (some_is (chosen_at g l.left) left.0 left.1)) in
    let few = f.few in
    let w = f.rules.matched.forward l has in
    let r : l.right - l.left ≤ most = omega arith in
    r
