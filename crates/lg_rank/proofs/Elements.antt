-- Elements by their places.
use Rattle.std.proofs.Common.{◌≡◌, ℕ, zero, suc, List, [], ◌∷◌, ◌++◌, length, Some, slice_get, ◌⊎◌, inl, inr, refl, sym, ap, subst, Less, Equal, Greater}
use Rattle.std.specs.declared.cmp.Ordering.{Ordering}
use Rattle.std.specs.Cmp.{IsTotalOrder}
use Rattle.lg_rank.specs.Fronts.{AtMost}

pub push_old : {V : Type 0} (xs : List V) (y : V) (i : ℕ) (v : V) → slice_get xs i ≡ Some v → slice_get (xs ++ y ∷ []) i ≡ Some v
push_old [] y i v h = absurd cc
push_old (x ∷ xs) y zero v h = h
push_old (x ∷ xs) y (suc i) v h = push_old xs y i v h

-- what stood in the first of two lists stands in both
pub append_old : {V : Type 0} (xs ys : List V) (i : ℕ) (v : V) → slice_get xs i ≡ Some v → slice_get (xs ++ ys) i ≡ Some v
append_old [] ys i v h = absurd cc
append_old (x ∷ xs) ys zero v h = h
append_old (x ∷ xs) ys (suc i) v h = append_old xs ys i v h

pub append_none : {V : Type 0} (xs : List V) → xs ++ [] ≡ xs
append_none [] = refl
append_none (x ∷ xs) = ap (λ t. x ∷ t) (append_none xs)

-- two lists that are nothing together
pub none_first : {V : Type 0} (xs ys : List V) → xs ++ ys ≡ [] → xs ≡ []
none_first [] ys e = refl
none_first (x ∷ xs) ys e = absurd cc

pub push_here : {V : Type 0} (xs : List V) (y : V) → slice_get (xs ++ y ∷ []) (length xs) ≡ Some y
push_here [] y = refl
push_here (x ∷ xs) y = push_here xs y

pub push_from : {V : Type 0} (xs : List V) (y : V) (i : ℕ) (v : V) → slice_get (xs ++ y ∷ []) i ≡ Some v → (slice_get xs i ≡ Some v) ⊎ ((i ≡ length xs) × (v ≡ y))
push_from [] y zero v h = inr (refl, cc)
push_from [] y (suc i) v h = absurd cc
push_from (x ∷ xs) y zero v h = inl h
push_from (x ∷ xs) y (suc i) v h = elim (push_from xs y i v h) [ inl e ↦ inl e | inr e ↦ inr (ap suc e.0, e.1) ]

pub less_not : {V : Type 0} {cmp : V → V → Ordering} → IsTotalOrder cmp → (a b : V) → cmp a b ≡ Less → a ≡ b → ⊥
less_not {V} {cmp} total a b h e = not_self (cmp a a) (total.antisymm a a) (subst (λ (z : V). cmp a z ≡ Less) (sym e) h)
  where
    not_self : (o : Ordering) → o ≡ Rattle.std.specs.Ordering.ordering_reverse o → o ≡ Less → ⊥
    not_self Less h e = absurd cc
    not_self Equal h e = absurd cc
    not_self Greater h e = absurd cc

pub less_most : {V : Type 0} {cmp : V → V → Ordering} → IsTotalOrder cmp → (a b c : V) → cmp a b ≡ Less → AtMost cmp b c → cmp a c ≡ Less
less_most {V} {cmp} total a b c h (inl g) = total.trans a b c h g
less_most {V} {cmp} total a b c h (inr e) = subst (λ (z : V). cmp a z ≡ Less) e h

pub most_trans : {V : Type 0} {cmp : V → V → Ordering} → IsTotalOrder cmp → (a b c : V) → AtMost cmp a b → AtMost cmp b c → AtMost cmp a c
most_trans {V} {cmp} total a b c (inl h) g = inl (less_most total a b c h g)
most_trans {V} {cmp} total a b c (inr e) g = subst (λ (z : V). AtMost cmp z c) (sym e) g
