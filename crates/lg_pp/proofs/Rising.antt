-- Lists that rise: one more element, and numbers that are found one after another.
use Rattle.std.proofs.Common.{◌≡◌, ℕ, ◌+◌, ◌<◌, List, [], ◌∷◌, ◌++◌, map, inl, inr, subst, All, Contains, arith, Less}
use Rattle.std.specs.declared.cmp.Ordering.{Ordering}
use Rattle.std.specs.Ordering.{nat_cmp, on}
use Rattle.std.specs.List.{AllByRecursion}
use Rattle.std.specs.List.Sorted.{IsStrictlySortedBy}
use Rattle.lg_pp.specs.Steps.{AreThose}
use Rattle.std.proofs.lemmas.Bool.{cases_lt}
use Rattle.std.proofs.lemmas.Bool.Decides.{nat_tests}
use Rattle.std.proofs.lemmas.List.Elements.{All-from_recursion, recursion_from_All, All-push, All-append, All-map, All-head, All-tail, All-weaker, All-contains_itself, Contains-append_left, Contains-push, Contains-push_cases}

pub rise_push : {A : Type 0} (cmp : A → A → Ordering) (xs : List A) (y : A) → IsStrictlySortedBy cmp xs → All (λ x. cmp x y ≡ Less) xs → IsStrictlySortedBy cmp (xs ++ y ∷ [])
unfolding IsStrictlySortedBy
rise_push cmp [] y up below = (tt, tt)
rise_push cmp (x ∷ xs) y up below = (
  recursion_from_All (λ z. cmp x z ≡ Less) (xs ++ y ∷ []) (All-push (λ z. cmp x z ≡ Less) xs y (All-from_recursion (λ z. cmp x z ≡ Less) xs up.0) (All-head (λ z. cmp z y ≡ Less) x xs below)),
  rise_push cmp xs y up.1 (All-tail (λ z. cmp z y ≡ Less) x xs below),
)

pub those_none : (P : ℕ → Type 0) → AreThose P 0 []
unfolding IsStrictlySortedBy
those_none P = record { rise = tt; exactly = λ k. (λ has. absurd (omega (arith, has.1)), λ h. absurd (omega (arith, h.0))) }

less_from_below : (k n : ℕ) → k < n → nat_cmp k n ≡ Less
less_from_below k n less = grind (arith, nat_tests)

module _ (P : ℕ → Type 0) (n : ℕ) (numbers : List ℕ) (those : AreThose P n numbers) where
  all_below : All (λ k. nat_cmp k n ≡ Less) numbers
  all_below = All-weaker (Contains numbers) (λ k. nat_cmp k n ≡ Less) (λ k has. less_from_below k n ((those.exactly k).0 has).0) numbers (All-contains_itself numbers)

  to_push : P n → (k : ℕ) → Contains (numbers ++ n ∷ []) k → (k < n + 1) × P k
  to_push here k has = elim (Contains-push_cases numbers n k has) [
    | inl old ↦ let h = (those.exactly k).0 old in (omega arith, h.1)
    | inr same ↦ subst (λ m. (m < n + 1) × P m) same (omega arith, here)
  ]

  from_push : (k : ℕ) → (k < n + 1) × P k → Contains (numbers ++ n ∷ []) k
  from_push k h = elim (cases_lt k n) [
    | inl less ↦ Contains-append_left numbers (n ∷ []) k ((those.exactly k).1 (less, h.1))
    | inr past ↦ let same : n ≡ k = omega (arith, h.0) in subst (Contains (numbers ++ n ∷ [])) same (Contains-push numbers n)
  ]

  pub those_push : P n → AreThose P (n + 1) (numbers ++ n ∷ [])
  those_push here = record { rise = rise_push nat_cmp numbers n those.rise all_below; exactly = λ k. (to_push here k, from_push k) }

  pub those_skip : (P n → ⊥) → AreThose P (n + 1) numbers
  those_skip not = record {
    rise = those.rise;
    exactly = λ k. (
      λ has. let h = (those.exactly k).0 has in (omega arith, h.1),
      λ h. elim (cases_lt k n) [
        | inl less ↦ (those.exactly k).1 (less, h.1)
        | inr past ↦ let same : k ≡ n = omega (arith, h.0) in absurd (not (subst P same h.1))
      ],
    );
  }

pub rise_append : {A : Type 0} (cmp : A → A → Ordering) (xs ys : List A) → IsStrictlySortedBy cmp xs → IsStrictlySortedBy cmp ys → All (λ x. All (λ y. cmp x y ≡ Less) ys) xs → IsStrictlySortedBy cmp (xs ++ ys)
unfolding IsStrictlySortedBy
rise_append {A} cmp [] ys up rest below = rest
rise_append {A} cmp (x ∷ xs) ys up rest below =
    let P : A → Type 0 = λ x. All (λ y. cmp x y ≡ Less) ys in (
      recursion_from_All (λ z. cmp x z ≡ Less) (xs ++ ys) (All-append (λ z. cmp x z ≡ Less) xs ys (All-from_recursion (λ z. cmp x z ≡ Less) xs up.0) (All-head P x xs below)),
      rise_append cmp xs ys up.1 rest (All-tail P x xs below),
    )

-- a map that keeps the order
pub rise_map : {A B : Type 0} (cmp : A → A → Ordering) (cmp' : B → B → Ordering) (f : A → B) → ((x y : A) → cmp x y ≡ Less → cmp' (f x) (f y) ≡ Less) → (xs : List A) → IsStrictlySortedBy cmp xs → IsStrictlySortedBy cmp' (map f xs)
unfolding IsStrictlySortedBy
rise_map cmp cmp' f keeps [] up = tt
rise_map cmp cmp' f keeps (x ∷ xs) up = (
  recursion_from_All (λ z. cmp' (f x) z ≡ Less) (map f xs) (All-map (λ z. cmp' (f x) z ≡ Less) f xs (All-weaker (λ y. cmp x y ≡ Less) (λ y. cmp' (f x) (f y) ≡ Less) (keeps x) xs (All-from_recursion (λ z. cmp x z ≡ Less) xs up.0))),
  rise_map cmp cmp' f keeps xs up.1,
)

all_on : {A B : Type 0} (P : B → Type 0) (f : A → B) (xs : List A) → AllByRecursion P (map f xs) → AllByRecursion (λ x. P (f x)) xs
all_on P f [] all = tt
all_on P f (x ∷ xs) all = (all.0, all_on P f xs all.1)

pub rise_on : {A B : Type 0} (cmp : B → B → Ordering) (f : A → B) (xs : List A) → IsStrictlySortedBy cmp (map f xs) → IsStrictlySortedBy (on f cmp) xs
unfolding IsStrictlySortedBy
rise_on cmp f [] up = tt
rise_on cmp f (x ∷ xs) up = (all_on (λ z. cmp (f x) z ≡ Less) f xs up.0, rise_on cmp f xs up.1)
