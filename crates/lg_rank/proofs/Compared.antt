-- Lists compared place by place.
use Rattle.std.proofs.Common.{◌≡◌, ℕ, zero, suc, min, [], ◌∷◌, drop, List, length, refl, ◌∙◌, arith}
use Rattle.std.specs.declared.cmp.Ordering.{Ordering}
use Rattle.std.specs.Ordering.{nat_cmp}
use Rattle.std.proofs.lemmas.Bool.Decides.{nat_tests}
use Rattle.std.specs.Cmp.Lexicographic.{slice_cmp}

both_more : (m n : ℕ) → nat_cmp m n ≡ nat_cmp (suc m) (suc n)
both_more m n = grind (arith, nat_tests)

-- where one list has ended, the lengths decide
pub slice_cmp_ended : {A : Type 0} (R : A → A → Ordering) (xs ys : List A) (i : ℕ) → i ≡ min (length xs) (length ys) → slice_cmp R (drop i xs) (drop i ys) ≡ nat_cmp (length xs) (length ys)
slice_cmp_ended R [] [] zero h = refl
slice_cmp_ended R [] (y ∷ ys) zero h = grind (arith, nat_tests)
slice_cmp_ended R (x ∷ xs) [] zero h = grind (arith, nat_tests)
slice_cmp_ended R (x ∷ xs) (y ∷ ys) zero h = absurd (omega arith)
slice_cmp_ended R [] ys (suc i) h = absurd (omega arith)
slice_cmp_ended R (x ∷ xs) [] (suc i) h = absurd (omega arith)
slice_cmp_ended R (x ∷ xs) (y ∷ ys) (suc i) h = slice_cmp_ended R xs ys i (omega arith) ∙ both_more (length xs) (length ys)
