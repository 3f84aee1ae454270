-- Lists that rise: the elements of any list, rising, and one list behind another.
use Rattle.std.proofs.Common.{◌≡◌, ◌⊎◌, ◌↔◌, List, [], ◌∷◌, ◌++◌, Contains, inl, inr, refl, sym, ap, ◌∙◌, subst, Less, Equal, Greater}
use Rattle.std.specs.declared.cmp.Ordering.{Ordering}
use Rattle.std.specs.Cmp.{IsTotalOrder}
use Rattle.std.specs.Ordering.{ordering_reverse}
use Rattle.std.specs.List.Sorted.{IsStrictlySortedBy}
use Rattle.std.proofs.lemmas.List.Elements.{All-contains, All-contains_itself, All-weaker, recursion_from_All, Contains-append_right, Contains-append_cases}
use Rattle.std.proofs.lemmas.Map.Keys.{sorted_tail}
use Rattle.std.proofs.lemmas.Map.Views.{All-after_first}
use Rattle.lg_base.proofs.Elements.{contains_here, contains_later, contains_cases, contains_none}
use Rattle.lg_gram.proofs.Exact.{Less≢Equal}

module _ {K : Type 0} (R : K → K → Ordering) (total : IsTotalOrder R) where
  -- their order tells these apart
  abbrev pub AreToldApart : List K → Type 0
  AreToldApart xs = (d e : K) → Contains xs d → Contains xs e → R d e ≡ Equal → d ≡ e

  after : (x : K) (xs : List K) (y : K) → IsStrictlySortedBy R (x ∷ xs) → Contains xs y → R x y ≡ Less
  after x xs y up m = All-contains (λ z. R x z ≡ Less) xs y (All-after_first R x xs up) m

  -- two of a list that rises are one where their order does not tell them apart
  pub one_in_rising : (xs : List K) → IsStrictlySortedBy R xs → AreToldApart xs
  one_in_rising [] up d e m n alike = absurd (contains_none d m)
  one_in_rising (x ∷ xs) up d e m n alike =
      elim (contains_cases x xs d m) [
        | inl first ↦ elim (contains_cases x xs e n) [
          | inl second ↦ sym first ∙ second
          | inr later ↦ absurd (Less≢Equal (sym (subst (λ z. R z e ≡ Less) first (after x xs e up later)) ∙ alike))
        ]
        | inr later ↦ elim (contains_cases x xs e n) [
          | inl second ↦
              let less : R e d ≡ Less = subst (λ z. R z d ≡ Less) second (after x xs d up later) in
              let back : R e d ≡ Equal = total.antisymm e d ∙ ap ordering_reverse alike in
              absurd (Less≢Equal (sym less ∙ back))
          | inr both ↦ one_in_rising xs (sorted_tail R x xs up) d e later both alike
        ]
      ]

  front : (x : K) (xs : List K) → ((y : K) → Contains xs y → R x y ≡ Less) → IsStrictlySortedBy R xs → IsStrictlySortedBy R (x ∷ xs)
  unfolding IsStrictlySortedBy
  front x xs less up = (recursion_from_All (λ y. R x y ≡ Less) xs (All-weaker (Contains xs) (λ y. R x y ≡ Less) less xs (All-contains_itself xs)), up)

  nothing : IsStrictlySortedBy R []
  unfolding IsStrictlySortedBy
  nothing = tt

  -- a list that rises with the elements of a list, and one more
  abbrev OneMore : K → List K → Type 0
  OneMore x ys = (zs : List K) × IsStrictlySortedBy R zs × ((z : K) → Contains zs z ↔ ((x ≡ z) ⊎ Contains ys z))

  put : (x y : K) (ys : List K) → (R x y ≡ Equal → x ≡ y) → IsStrictlySortedBy R (y ∷ ys) → OneMore x ys → (o : Ordering) → R x y ≡ o → OneMore x (y ∷ ys)
  put x y ys exact up rest Less is = (
    x ∷ y ∷ ys,
    front x (y ∷ ys) (λ z m. elim (contains_cases y ys z m) [
      | inl e ↦ subst (λ w. R x w ≡ Less) e is
      | inr later ↦ total.trans x y z is (after y ys z up later)
    ]) up,
    λ z. (
      λ m. contains_cases x (y ∷ ys) z m,
      λ h. elim h [
        | inl e ↦ subst (Contains (x ∷ y ∷ ys)) e (contains_here x (y ∷ ys))
        | inr m ↦ contains_later x (y ∷ ys) z m
      ],
    ),
  )
  put x y ys exact up rest Equal is = (
    y ∷ ys,
    up,
    λ z. (
      λ m. inr m,
      λ h. elim h [
        | inl e ↦ subst (Contains (y ∷ ys)) (sym (exact is) ∙ e) (contains_here y ys)
        | inr m ↦ m
      ],
    ),
  )
  put x y ys exact up (zs, rising, same) Greater is = (
    y ∷ zs,
    front y zs (λ z m. elim ((same z).0 m) [
      | inl e ↦ subst (λ w. R y w ≡ Less) e (total.antisymm y x ∙ ap ordering_reverse is)
      | inr later ↦ after y ys z up later
    ]) rising,
    λ z. (
      λ m. elim (contains_cases y zs z m) [
        | inl e ↦ inr (subst (Contains (y ∷ ys)) e (contains_here y ys))
        | inr later ↦ elim ((same z).0 later) [
          | inl e ↦ inl e
          | inr n ↦ inr (contains_later y ys z n)
        ]
      ],
      λ h. elim h [
        | inl e ↦ contains_later y zs z ((same z).1 (inl e))
        | inr m ↦ elim (contains_cases y ys z m) [
          | inl e ↦ subst (Contains (y ∷ zs)) e (contains_here y zs)
          | inr n ↦ contains_later y zs z ((same z).1 (inr n))
        ]
      ],
    ),
  )

  insert : (x : K) (ys : List K) → ((y : K) → Contains ys y → R x y ≡ Equal → x ≡ y) → IsStrictlySortedBy R ys → OneMore x ys
  insert x [] exact up = (
    x ∷ [],
    front x [] (λ z m. absurd (contains_none z m)) nothing,
    λ z. (
      λ m. contains_cases x [] z m,
      λ h. elim h [
        | inl e ↦ subst (Contains (x ∷ [])) e (contains_here x [])
        | inr m ↦ absurd (contains_none z m)
      ],
    ),
  )
  insert x (y ∷ ys) exact up =
      put x y ys (exact y (contains_here y ys)) up (insert x ys (λ z m. exact z (contains_later y ys z m)) (sorted_tail R y ys up)) (R x y) refl

  pub rising_of : (xs : List K) → AreToldApart xs → (ys : List K) × IsStrictlySortedBy R ys × ((z : K) → Contains ys z ↔ Contains xs z)
  rising_of [] apart = ([], nothing, λ z. (λ m. m, λ m. m))
  rising_of (x ∷ xs) apart =
      let (ys, up, same) = rising_of xs (λ d e m n alike. apart d e (contains_later x xs d m) (contains_later x xs e n) alike) in
      let (zs, rising, more) = insert x ys (λ y m alike. apart x y (contains_here x xs) (contains_later x xs y ((same y).0 m)) alike) up in (
        zs,
        rising,
        λ z. (
          λ m. elim ((more z).0 m) [
            | inl e ↦ subst (Contains (x ∷ xs)) e (contains_here x xs)
            | inr n ↦ contains_later x xs z ((same z).0 n)
          ],
          λ m. elim (contains_cases x xs z m) [
            | inl e ↦ (more z).1 (inl e)
            | inr n ↦ (more z).1 (inr ((same z).1 n))
          ],
        ),
      )

  -- ---- one list behind another

  sorted_both : (xs ys : List K) → IsStrictlySortedBy R xs → IsStrictlySortedBy R ys → ((x y : K) → Contains xs x → Contains ys y → R x y ≡ Less) → IsStrictlySortedBy R (xs ++ ys)
  sorted_both [] ys up vp cross = vp
  sorted_both (x ∷ xs) ys up vp cross =
      front x (xs ++ ys) (λ y m. elim (Contains-append_cases xs ys y m) [
        | inl a ↦ after x xs y up a
        | inr b ↦ cross x y (contains_here x xs) b
      ]) (sorted_both xs ys (sorted_tail R x xs up) vp (λ z y m n. cross z y (contains_later x xs z m) n))

  pub sorted_behind : (xs ys : List K) → IsStrictlySortedBy R (xs ++ ys) → IsStrictlySortedBy R ys
  sorted_behind [] ys up = up
  sorted_behind (x ∷ xs) ys up = sorted_behind xs ys (sorted_tail R x (xs ++ ys) up)

  -- each of the first is before each of the second
  pub crossing : (xs ys : List K) → IsStrictlySortedBy R (xs ++ ys) → (x y : K) → Contains xs x → Contains ys y → R x y ≡ Less
  crossing [] ys up x y m n = absurd (contains_none x m)
  crossing (z ∷ xs) ys up x y m n =
      elim (contains_cases z xs x m) [
        | inl e ↦ subst (λ w. R w y ≡ Less) e (after z (xs ++ ys) y up (Contains-append_right xs ys y n))
        | inr later ↦ crossing xs ys (sorted_tail R z (xs ++ ys) up) x y later n
      ]

  -- where the last of the first is before the head of the second
  pub sorted_onward : (before : List K) (l h : K) (hs : List K) → IsStrictlySortedBy R (before ++ l ∷ []) → IsStrictlySortedBy R (h ∷ hs) → R l h ≡ Less
      → IsStrictlySortedBy R ((before ++ l ∷ []) ++ h ∷ hs)
  sorted_onward before l h hs up vp less =
      let from_last : (y : K) → Contains (h ∷ hs) y → R l y ≡ Less = λ y n. elim (contains_cases h hs y n) [
        | inl e ↦ subst (λ w. R l w ≡ Less) e less
        | inr later ↦ total.trans l h y less (after h hs y vp later)
      ] in
      sorted_both (before ++ l ∷ []) (h ∷ hs) up vp (λ x y m n. elim (Contains-append_cases before (l ∷ []) x m) [
        | inl old ↦ total.trans x l y (crossing before (l ∷ []) up x l old (contains_here l [])) (from_last y n)
        | inr new ↦ elim (contains_cases l [] x new) [
          | inl e ↦ subst (λ w. R w y ≡ Less) e (from_last y n)
          | inr none ↦ absurd (contains_none x none)
        ]
      ])
