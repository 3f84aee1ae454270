-- Values that the order does not tell apart are one.
use Rattle.std.proofs.Common.{◌≡◌, ℕ, List, [], ◌∷◌, inl, inr, refl, sym, arith, Less, Equal, Greater}
use Rattle.std.specs.declared.cmp.Ordering.{Ordering}
use Rattle.std.specs.Ordering.{nat_cmp, int_cmp, ordering_reverse}
use Rattle.std.specs.Cmp.{IsTotalOrder}
use Rattle.std.specs.Cmp.Lexicographic.{slice_cmp}
use Rattle.std.proofs.Common.{ℤ}
use Rattle.std.proofs.lemmas.Bool.Decides.{nat_tests}
use Rattle.std.proofs.lemmas.Int.{ints}
use Rattle.lg_rank.specs.Fronts.{AtMost}
use Rattle.lg_rank.specs.Values.{Value, value_cmp}
use Rattle.lg_rank.proofs.Ties.{then_equal, equal_list}

-- ---- values that the order does not tell apart are one
same_int : (a b : ℤ) → int_cmp a b ≡ Equal → a ≡ b
same_int a b h = grind (arith, ints)

same_nat : (a b : ℕ) → nat_cmp a b ≡ Equal → a ≡ b
same_nat a b h = grind (arith, nat_tests)

same_nats : (xs ys : List ℕ) → slice_cmp nat_cmp xs ys ≡ Equal → xs ≡ ys
same_nats [] [] h = refl
same_nats [] (y ∷ ys) h = absurd cc
same_nats (x ∷ xs) [] h = absurd cc
same_nats (x ∷ xs) (y ∷ ys) h = (let t = then_equal (nat_cmp x y) (slice_cmp nat_cmp xs ys) h in λ k. same_nat x y t.0 k ∷ same_nats xs ys t.1 k)

pub same_value : (v w : Value) → value_cmp v w ≡ Equal → v ≡ w
same_value v w h =
    let a = then_equal _ _ h in
    let b = then_equal _ _ a.1 in
    let c = then_equal _ _ b.1 in
    λ k. record { cost = same_int v.cost w.cost a.0 k; span = same_nat v.span w.span b.0 k; choices = same_nats v.choices w.choices c.0 k; links = equal_list v.links w.links c.1 k }

by_order : (o : Ordering) (v w : Value) → value_cmp v w ≡ o → value_cmp w v ≡ ordering_reverse o → (o ≡ Less → ⊥) → AtMost value_cmp w v
by_order Less v w e f h = absurd (h refl)
by_order Equal v w e f h = inr (sym (same_value v w e))
by_order Greater v w e f h = inl f

-- what does not come before is at least
pub not_less : IsTotalOrder value_cmp → (v w : Value) → (value_cmp v w ≡ Less → ⊥) → AtMost value_cmp w v
not_less total v w h = by_order (value_cmp v w) v w refl (total.antisymm w v) h
