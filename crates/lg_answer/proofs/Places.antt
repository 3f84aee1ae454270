-- Elements of two lists, one after the other, by their places.
use Rattle.std.proofs.Common.{◌≡◌, ◌⊎◌, ℕ, zero, suc, ◌+◌, List, [], ◌∷◌, ◌++◌, length, get_or, Some, All, Contains, inl, inr, refl, sym, subst, arith}
use Rattle.std.specs.Prelude.{slice_get}
use Rattle.std.proofs.lemmas.Option.{slice_get_read, slice_get_within, get_or_from_slice_get, slice_get-get_or}
use Rattle.lg_rank.specs.Fronts.{IsIn}

module _ {V : Type 0} where
  pub in_left : (xs ys : List V) (i : ℕ) (v : V) → slice_get xs i ≡ Some v → slice_get (xs ++ ys) i ≡ Some v
  in_left [] ys i v h = absurd cc
  in_left (x ∷ xs) ys zero v h = h
  in_left (x ∷ xs) ys (suc i) v h = in_left xs ys i v h

  pub in_right : (xs ys : List V) (i : ℕ) (v : V) → slice_get ys i ≡ Some v → slice_get (xs ++ ys) (length xs + i) ≡ Some v
  in_right [] ys i v h = let e : i ≡ 0 + i = omega arith in subst (λ n. slice_get ys n ≡ Some v) e h
  in_right (x ∷ xs) ys i v h =
      let e : suc (length xs + i) ≡ suc (length xs) + i = omega arith in
      subst (λ n. slice_get (x ∷ xs ++ ys) n ≡ Some v) e (in_right xs ys i v h)

  pub in_either : (xs ys : List V) (i : ℕ) (v : V) → slice_get (xs ++ ys) i ≡ Some v → (slice_get xs i ≡ Some v) ⊎ ((j : ℕ) × (i ≡ length xs + j) × (slice_get ys j ≡ Some v))
  in_either [] ys i v h = let e : i ≡ 0 + i = omega arith in inr (i, e, h)
  in_either (x ∷ xs) ys zero v h = inl h
  in_either (x ∷ xs) ys (suc i) v h = elim (in_either xs ys i v h) [
    | inl a ↦ inl a
    | inr b ↦ let e : i ≡ length xs + b.0 = b.1 in let f : suc i ≡ suc (length xs) + b.0 = omega arith in inr (b.0, f, b.2)
  ]

  pub place_of : (xs : List V) (v : V) → Contains xs v → IsIn xs v
  place_of xs v h = (h.0, slice_get_read xs (length xs) h.0 v refl h.1 (sym h.2))

  pub at_place : (xs : List V) (v : V) → IsIn xs v → Contains xs v
  at_place xs v h = (h.0, slice_get_within xs h.0 v h.1, get_or_from_slice_get xs h.0 v v h.1)

  -- what holds at each place holds of all
  pub all_places : (P : V → Type 0) (xs : List V) → ((i : ℕ) (v : V) → slice_get xs i ≡ Some v → P v) → All P xs
  all_places P xs each k d within = each k (get_or xs k d) (slice_get-get_or xs k d within)
