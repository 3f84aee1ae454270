-- Lists that rise.
use Rattle.std.proofs.Common.{◌≡◌, inl, inr, ◌↔◌, ℕ, List, [], ◌∷◌, slice_get, Some, Contains, ◌⊎◌, refl, ap, sym, subst, ◌∙◌, arith, Less, Equal, Greater}
use Rattle.std.specs.declared.cmp.Ordering.{Ordering}
use Rattle.std.specs.Cmp.{IsTotalOrder}
use Rattle.std.proofs.lemmas.Map.Lookups.{CmpEqualImpliesEq}
use Rattle.std.specs.Ordering.{ordering_reverse}
use Rattle.std.specs.List.Sorted.{IsStrictlySortedBy}
use Rattle.std.proofs.lemmas.Bool.{cases_lt}
use Rattle.std.proofs.lemmas.Cmp.{tied_itself}
use Rattle.std.proofs.lemmas.List.Elements.{All-contains, All-contains_itself, All-weaker, recursion_from_All}
use Rattle.std.proofs.lemmas.Map.Keys.{Less-from_sorted, sorted_tail}
use Rattle.std.proofs.lemmas.Map.Views.{All-after_first}
use Rattle.std.proofs.lemmas.Option.{slice_get_within, get_or_from_slice_get}
use Rattle.lg_base.proofs.Elements.{contains_here, contains_later, contains_cases, contains_none}
use Rattle.lg_gram.proofs.Exact.{Less≢Equal}

module _ {K : Type 0} (R : K → K → Ordering) (total : IsTotalOrder R) where
  pub not_itself : (x : K) → R x x ≡ Less → ⊥
  not_itself x h = Less≢Equal (sym h ∙ tied_itself total x)

  not_both : (x y : K) → R x y ≡ Less → R y x ≡ Less → ⊥
  not_both x y h i = not_itself x (total.trans x y x h i)

  pub after : (x : K) (xs : List K) (y : K) → IsStrictlySortedBy R (x ∷ xs) → Contains xs y → R x y ≡ Less
  after x xs y up m = All-contains (λ z. R x z ≡ Less) xs y (All-after_first R x xs up) m

  tail_in : (x : K) (xs : List K) (y : K) (ys : List K) → IsStrictlySortedBy R (x ∷ xs) → x ≡ y → ((z : K) → Contains (x ∷ xs) z → Contains (y ∷ ys) z) → (z : K) → Contains xs z → Contains ys z
  tail_in x xs y ys up same all z m =
      elim (contains_cases y ys z (all z (contains_later x xs z m))) [
        | inl e ↦ absurd (not_itself x (subst (λ w. R x w ≡ Less) (sym (same ∙ e)) (after x xs z up m)))
        | inr later ↦ later
      ]

  -- two with the same elements are one
  pub same_rising : (xs ys : List K) → IsStrictlySortedBy R xs → IsStrictlySortedBy R ys → ((z : K) → Contains xs z ↔ Contains ys z) → xs ≡ ys
  same_rising [] [] up down same = refl
  same_rising [] (y ∷ ys) up down same = absurd (contains_none y ((same y).1 (contains_here y ys)))
  same_rising (x ∷ xs) [] up down same = absurd (contains_none x ((same x).0 (contains_here x xs)))
  same_rising (x ∷ xs) (y ∷ ys) up down same =
      let first : x ≡ y = elim (contains_cases y ys x ((same x).0 (contains_here x xs))) [
        | inl e ↦ sym e
        | inr m ↦ elim (contains_cases x xs y ((same y).1 (contains_here y ys))) [
          | inl e ↦ e
          | inr n ↦ absurd (not_both x y (after x xs y up n) (after y ys x down m))
        ]
      ] in
      let rest = same_rising xs ys (sorted_tail R x xs up) (sorted_tail R y ys down)
      (λ z. (λ m. tail_in x xs y ys up first (λ w h. (same w).0 h) z m, λ m. tail_in y ys x xs down (sym first) (λ w h. (same w).1 h) z m)) in
      λ i. first i ∷ rest i

  -- an element stands at one place
  pub one_place : (xs : List K) (i j : ℕ) (x : K) → IsStrictlySortedBy R xs → slice_get xs i ≡ Some x → slice_get xs j ≡ Some x → i ≡ j
  one_place xs i j x up at_i at_j =
      let here = get_or_from_slice_get xs i x x at_i in
      let there = get_or_from_slice_get xs j x x at_j in
      elim (cases_lt i j) [
        | inl less ↦ absurd (not_itself x (sym (λ k. R (here k) (there k)) ∙ Less-from_sorted R xs i j x up less (slice_get_within xs j x at_j)))
        | inr more ↦ elim (cases_lt j i) [
          | inl less ↦ absurd (not_itself x (sym (λ k. R (there k) (here k)) ∙ Less-from_sorted R xs j i x up less (slice_get_within xs i x at_i)))
          | inr least ↦ omega (arith, more, least)
        ]
      ]

  -- the elements of any list, rising
  front : (x : K) (xs : List K) → ((y : K) → Contains xs y → R x y ≡ Less) → IsStrictlySortedBy R xs → IsStrictlySortedBy R (x ∷ xs)
  unfolding IsStrictlySortedBy
  front x xs less up = (recursion_from_All (λ y. R x y ≡ Less) xs (All-weaker (Contains xs) (λ y. R x y ≡ Less) less xs (All-contains_itself xs)), up)

  nothing : IsStrictlySortedBy R []
  unfolding IsStrictlySortedBy
  nothing = tt

  abbrev one_more : K → List K → Type 0
  one_more x ys = (zs : List K) × IsStrictlySortedBy R zs × ((z : K) → Contains zs z ↔ ((x ≡ z) ⊎ Contains ys z))

  put : (x y : K) (ys : List K) → CmpEqualImpliesEq R → IsStrictlySortedBy R (y ∷ ys) → one_more x ys → (o : Ordering) → R x y ≡ o → one_more x (y ∷ ys)
  put x y ys exact up rest Less is = (
    x ∷ y ∷ ys,
    front x (y ∷ ys) (λ z m. elim (contains_cases y ys z m) [
      | inl e ↦ subst (λ w. R x w ≡ Less) e is
      | inr later ↦ total.trans x y z is (after y ys z up later)
    ]) up,
    λ z. (
      λ m. contains_cases x (y ∷ ys) z m,
      λ h. elim h [
        | inl e ↦ subst (Contains (x ∷ y ∷ ys)) e (contains_here x (y ∷ ys))
        | inr m ↦ contains_later x (y ∷ ys) z m
      ],
    ),
  )
  put x y ys exact up rest Equal is = (
    y ∷ ys,
    up,
    λ z. (
      λ m. inr m,
      λ h. elim h [
        | inl e ↦ subst (Contains (y ∷ ys)) (sym (exact x y is) ∙ e) (contains_here y ys)
        | inr m ↦ m
      ],
    ),
  )
  put x y ys exact up (zs, rising, same) Greater is = (
    y ∷ zs,
    front y zs (λ z m. elim ((same z).0 m) [
      | inl e ↦ subst (λ w. R y w ≡ Less) e (total.antisymm y x ∙ ap ordering_reverse is)
      | inr later ↦ after y ys z up later
    ]) rising,
    λ z. (
      λ m. elim (contains_cases y zs z m) [
        | inl e ↦ inr (subst (Contains (y ∷ ys)) e (contains_here y ys))
        | inr later ↦ elim ((same z).0 later) [
          | inl e ↦ inl e
          | inr n ↦ inr (contains_later y ys z n)
        ]
      ],
      λ h. elim h [
        | inl e ↦ contains_later y zs z ((same z).1 (inl e))
        | inr m ↦ elim (contains_cases y ys z m) [
          | inl e ↦ subst (Contains (y ∷ zs)) e (contains_here y zs)
          | inr n ↦ contains_later y zs z ((same z).1 (inr n))
        ]
      ],
    ),
  )

  insert : CmpEqualImpliesEq R → (x : K) (ys : List K) → IsStrictlySortedBy R ys → one_more x ys
  insert exact x [] up = (
    x ∷ [],
    front x [] (λ z m. absurd (contains_none z m)) nothing,
    λ z. (
      λ m. contains_cases x [] z m,
      λ h. elim h [
        | inl e ↦ subst (Contains (x ∷ [])) e (contains_here x [])
        | inr m ↦ absurd (contains_none z m)
      ],
    ),
  )
  insert exact x (y ∷ ys) up = put x y ys exact up (insert exact x ys (sorted_tail R y ys up)) (R x y) refl

  pub rising_of : CmpEqualImpliesEq R → (xs : List K) → (ys : List K) × IsStrictlySortedBy R ys × ((z : K) → Contains ys z ↔ Contains xs z)
  rising_of exact [] = ([], nothing, λ z. (λ m. m, λ m. m))
  rising_of exact (x ∷ xs) =
      let (ys, up, same) = rising_of exact xs in
      let (zs, rising, more) = insert exact x ys up in (
        zs,
        rising,
        λ z. (
          λ m. elim ((more z).0 m) [
            | inl e ↦ subst (Contains (x ∷ xs)) e (contains_here x xs)
            | inr n ↦ contains_later x xs z ((same z).0 n)
          ],
          λ m. elim (contains_cases x xs z m) [
            | inl e ↦ (more z).1 (inl e)
            | inr n ↦ (more z).1 (inr ((same z).1 n))
          ],
        ),
      )
