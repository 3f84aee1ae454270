-- Products that are capped on the way.
use Rattle.std.proofs.Common.{◌≡◌, ℕ, suc, zero, ◌+◌, ◌*◌, ◌<◌, ◌≤◌, min, List, length, get_or, drop, refl, sym, ap, ◌∙◌, arith, drop-cons, add-one, inl, inr}
use Rattle.std.proofs.lemmas.Bool.{cases_lt}
use Rattle.std.proofs.Math.Nat.{mul-le-mul_left, min-eq_left, min-eq_right}
use Rattle.lg_gram.specs.declared.expr.Expr.{Expr}
use Rattle.lg_gram.specs.Trees.{tree_of, trees_in}
use Rattle.lg_gram.specs.Measures.{choice_count, product_in}

-- a product with a factor past the cap is past it, or 0
past : (a b m : ℕ) → m ≤ a → min (m * b) m ≡ min (a * b) m
past a zero m h = omega arith
past a (suc b) m h = omega (arith, mul-le-mul_left (suc b) h)

pub cap_mul : (a b m : ℕ) → min (min a m * b) m ≡ min (a * b) m
cap_mul a b m =
    elim (cases_lt a m) [
      | inl h ↦ ap (λ x. min (x * b) m) (min-eq_left (omega arith))
      | inr h ↦ ap (λ x. min (x * b) m) (min-eq_right h) ∙ past a b m h
    ]

-- one more factor n, which is capped as x: q caps the product at k, and r that at m
pub product_step : (m k p x n q r rest : ℕ) → m ≤ k → x ≡ min n m → q ≡ min (p * x) k → r ≡ min q m → min (r * rest) m ≡ min (p * (n * rest)) m
product_step m k p x n q r rest h e f g =
    let is_r : r ≡ min (p * x) m = omega arith in
    let one : min (r * rest) m ≡ min (p * x * rest) m = ap (λ y. min (y * rest) m) is_r ∙ cap_mul (p * x) rest m in
    let two : min (x * (p * rest)) m ≡ min (n * (p * rest)) m = ap (λ y. min (y * (p * rest)) m) e ∙ cap_mul n (p * rest) m in
    let left : p * x * rest ≡ x * (p * rest) = omega arith in
    let right : p * (n * rest) ≡ n * (p * rest) = omega arith in
    one ∙ ap (λ y. min y m) left ∙ two ∙ ap (λ y. min y m) (sym right)

pub product_drop : (es : List Expr) (i : ℕ) (d : Expr) → i < length es → product_in (trees_in (drop i es)) ≡ choice_count (tree_of (get_or es i d)) * product_in (trees_in (drop (i + 1) es))
product_drop es i d h = rw (add-one, drop-cons es i d) refl
