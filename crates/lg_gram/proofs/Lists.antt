-- Lists compared place by place.
use Rattle.std.proofs.Common.{◌≡◌, ℕ, zero, suc, min, [], ◌∷◌, drop, ◌+◌, ◌-◌, ◌<◌, ◌≤◌, List, length, not, ◌==◌, get_or, inl, inr, false, refl, sym, ◌∙◌, arith, Less, Equal, Greater}
use Rattle.std.specs.declared.cmp.Ordering.{Ordering}
use Rattle.std.specs.Ordering.{nat_cmp, ordering_index}
use Rattle.std.proofs.lemmas.Bool.{false≢true, cases_lt}
use Rattle.std.proofs.lemmas.Bool.Decides.{nat_tests}
use Rattle.std.proofs.lemmas.List.{get_or_default}
use Rattle.std.specs.Cmp.{IsTotalOrder}
use Rattle.std.specs.Cmp.Lexicographic.{slice_cmp}
use Rattle.std.specs.List.Sorted.{IsStrictlySortedBy}
use Rattle.std.proofs.lemmas.Map.Keys.{sorted_from_all_adjacent}

both_more : (m n : ℕ) → nat_cmp m n ≡ nat_cmp (suc m) (suc n)
both_more m n = grind (arith, nat_tests)

-- where one list has ended, the lengths decide
pub slice_cmp_ended : {A : Type 0} (R : A → A → Ordering) (xs ys : List A) (i : ℕ) → i ≡ min (length xs) (length ys) → slice_cmp R (drop i xs) (drop i ys) ≡ nat_cmp (length xs) (length ys)
slice_cmp_ended R [] [] zero h = refl
slice_cmp_ended R [] (y ∷ ys) zero h = grind (arith, nat_tests)
slice_cmp_ended R (x ∷ xs) [] zero h = grind (arith, nat_tests)
slice_cmp_ended R (x ∷ xs) (y ∷ ys) zero h = absurd (omega arith)
slice_cmp_ended R [] ys (suc i) h = absurd (omega arith)
slice_cmp_ended R (x ∷ xs) [] (suc i) h = absurd (omega arith)
slice_cmp_ended R (x ∷ xs) (y ∷ ys) (suc i) h = slice_cmp_ended R xs ys i (omega arith) ∙ both_more (length xs) (length ys)

pub less_from_index : (o : Ordering) → not (ordering_index o == 0) ≡ false → o ≡ Less
less_from_index Less h = refl
less_from_index Equal h = absurd (false≢true (sym h))
less_from_index Greater h = absurd (false≢true (sym h))

-- one more step along a list that rises
pub adjacent_more : {A : Type 0} (R : A → A → Ordering) (xs : List A) (i : ℕ) (a : A) → 1 ≤ i → i < length xs →
    ((k : ℕ) (d : A) → k + 1 < i → R (get_or xs k d) (get_or xs (k + 1) d) ≡ Less) →
    R (get_or xs (i - 1) a) (get_or xs i a) ≡ Less →
    (k : ℕ) (d : A) → k + 1 < i + 1 → R (get_or xs k d) (get_or xs (k + 1) d) ≡ Less
adjacent_more R xs i a some within before here k d less =
    elim (cases_lt (k + 1) i) [
      | inl earlier ↦ before k d earlier
      | inr last ↦
          let at : k ≡ i - 1 = omega arith in
          let next : k + 1 ≡ i = omega arith in
          (λ j. R (get_or xs (at j) d) (get_or xs (next j) d))
          ∙ (λ j. R (get_or_default xs (i - 1) d a (omega arith) j) (get_or_default xs i d a (omega arith) j)) ∙ here
    ]

-- a list rises where each element comes before the next
pub rising_from : {A : Type 0} {R : A → A → Ordering} → IsTotalOrder R → (xs : List A) → ((k : ℕ) (d : A) → k + 1 < length xs → R (get_or xs k d) (get_or xs (k + 1) d) ≡ Less) → IsStrictlySortedBy R xs
unfolding IsStrictlySortedBy
rising_from total [] h = tt
rising_from {A} {R} total (x ∷ xs) h = sorted_from_all_adjacent {R = R} total (x ∷ xs) x (λ k less. h k x (omega arith))
