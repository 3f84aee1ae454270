-- Lists that rise and have the same elements are one.
use Rattle.std.proofs.Common.{◌≡◌, ℕ, zero, suc, List, [], ◌∷◌, refl, sym, ap, subst, ◌∙◌, arith, inl, inr, Less, Greater}
use Rattle.std.specs.Prelude.{◌⊎◌}
use Rattle.std.specs.declared.cmp.Ordering.{Ordering}
use Rattle.std.specs.Ordering.{ordering_reverse}
use Rattle.std.specs.Cmp.{IsTotalOrder}
use Rattle.std.specs.List.{Contains}
use Rattle.std.specs.List.Sorted.{IsStrictlySortedBy}
use Rattle.std.proofs.lemmas.List.Elements.{All-from_recursion, All-contains}
use Rattle.std.proofs.lemmas.Map.Keys.{sorted_head, sorted_tail}

-- the first element, or one of the others
head_or_later : {A : Type 0} (x : A) (xs : List A) (y : A) → Contains (x ∷ xs) y → (x ≡ y) ⊎ Contains xs y
head_or_later x xs y (zero, within, at) = inl at
head_or_later x xs y (suc k, within, at) = inr (k, omega arith, at)

first : {A : Type 0} (x : A) (xs : List A) → Contains (x ∷ xs) x
first x xs = (zero, omega arith, refl)

later : {A : Type 0} (x : A) (xs : List A) (y : A) → Contains xs y → Contains (x ∷ xs) y
later x xs y (k, within, at) = (suc k, omega arith, at)

none_in : {A : Type 0} (y : A) → Contains [] y → ⊥
none_in y (k, within, at) = omega arith

before_later : {A : Type 0} (R : A → A → Ordering) (x : A) (xs : List A) (y : A) → IsStrictlySortedBy R (x ∷ xs) → Contains xs y → R x y ≡ Less
before_later R x xs y rise h = All-contains (λ z. R x z ≡ Less) xs y (All-from_recursion (λ z. R x z ≡ Less) xs (sorted_head R x xs rise)) h

not_both : {A : Type 0} (R : A → A → Ordering) → IsTotalOrder R → (x y : A) → R x y ≡ Less → R y x ≡ Less → ⊥
not_both R total x y p q =
    let e : Less ≡ Greater = sym p ∙ total.antisymm x y ∙ ap ordering_reverse q in
    let n : ◌≡◌ {A = ℕ} 0 1 = cc in omega (arith, n)

same_first : {A : Type 0} (R : A → A → Ordering) → IsTotalOrder R → (x y : A) (xs ys : List A) → IsStrictlySortedBy R (x ∷ xs) → IsStrictlySortedBy R (y ∷ ys) →
    Contains (y ∷ ys) x → Contains (x ∷ xs) y → x ≡ y
same_first R total x y xs ys p q x_in y_in =
    elim (head_or_later y ys x x_in) [
      | inl e ↦ sym e
      | inr x_later ↦ elim (head_or_later x xs y y_in) [
        | inl e ↦ e
        | inr y_later ↦ absurd (not_both R total x y (before_later R x xs y p y_later) (before_later R y ys x q x_later))
      ]
    ]

-- what comes later in one list does so in the other
also_later : {A : Type 0} (R : A → A → Ordering) → IsTotalOrder R → (x y d : A) (xs ys : List A) → IsStrictlySortedBy R (x ∷ xs) → x ≡ y →
    (Contains (x ∷ xs) d → Contains (y ∷ ys) d) → Contains xs d → Contains ys d
also_later R total x y d xs ys p same into h =
    elim (head_or_later y ys d (into (later x xs d h))) [
      | inl e ↦
          let less : R x d ≡ Less = before_later R x xs d p h in
          let self : R x x ≡ Less = subst (λ z. R x z ≡ Less) (sym (same ∙ e)) less in
          absurd (not_both R total x x self self)
      | inr h ↦ h
    ]

pub one_list : {A : Type 0} (R : A → A → Ordering) → IsTotalOrder R → (xs ys : List A) → IsStrictlySortedBy R xs → IsStrictlySortedBy R ys →
    ((d : A) → Contains xs d → Contains ys d) → ((d : A) → Contains ys d → Contains xs d) → xs ≡ ys
one_list R total [] [] p q into from = refl
one_list R total [] (y ∷ ys) p q into from = absurd (none_in y (from y (first y ys)))
one_list R total (x ∷ xs) [] p q into from = absurd (none_in x (into x (first x xs)))
one_list R total (x ∷ xs) (y ∷ ys) p q into from =
    let same = same_first R total x y xs ys p q (into x (first x xs)) (from y (first y ys)) in
    let others = one_list R total xs ys (sorted_tail R x xs p) (sorted_tail R y ys q)
    (λ d. also_later R total x y d xs ys p same (into d)) (λ d. also_later R total y x d ys xs q (sym same) (from d)) in
    λ i. same i ∷ others i
