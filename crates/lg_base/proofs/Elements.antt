-- Lists seen by what they contain.
use Rattle.std.proofs.Common.{◌≡◌, zero, suc, map, ◌⊎◌, inl, inr, refl, sym, ap, ◌∙◌, subst, Bool, true, List, [], ◌∷◌, Contains, arith}
use Rattle.std.specs.List.{filter, flat_map}
use Rattle.std.proofs.lemmas.Bool.{cases_Bool}
use Rattle.std.proofs.lemmas.List.Elements.{Contains-append_left, Contains-append_right, Contains-append_cases}

pub contains_here : {X : Type 0} (x : X) (xs : List X) → Contains (x ∷ xs) x
contains_here x xs = (zero, omega arith, refl)

pub contains_later : {X : Type 0} (y : X) (xs : List X) (x : X) → Contains xs x → Contains (y ∷ xs) x
contains_later y xs x (k, l, e) = (suc k, omega arith, e)

pub contains_cases : {X : Type 0} (y : X) (xs : List X) (x : X) → Contains (y ∷ xs) x → (y ≡ x) ⊎ Contains xs x
contains_cases y xs x (zero, l, e) = inl e
contains_cases y xs x (suc k, l, e) = inr (k, omega arith, e)

pub contains_none : {X : Type 0} (x : X) → Contains [] x → ⊥
contains_none x (k, l, e) = omega arith

pub filter_in : {X : Type 0} (p : X → Bool) (xs : List X) (x : X) → Contains xs x → p x ≡ true → Contains (filter p xs) x
filter_in p [] x c e = absurd (contains_none x c)
filter_in p (y ∷ xs) x c e =
    elim (contains_cases y xs x c) [
      | inl f ↦ rw (ap p f ∙ e) (subst (λ z. Contains (z ∷ filter p xs) x) (sym f) (contains_here x (filter p xs)))
      | inr d ↦ elim (cases_Bool (p y)) [
        | inl t ↦ rw t (contains_later y (filter p xs) x (filter_in p xs x d e))
        | inr t ↦ rw t (filter_in p xs x d e)
      ]
    ]

pub filter_out : {X : Type 0} (p : X → Bool) (xs : List X) (x : X) → Contains (filter p xs) x → Contains xs x × (p x ≡ true)
filter_out p [] x c = absurd (contains_none x c)
filter_out p (y ∷ xs) x c =
    elim (cases_Bool (p y)) [
      | inl t ↦ (let d = rw t at c in elim (contains_cases y (filter p xs) x d) [
        | inl f ↦ (subst (λ z. Contains (y ∷ xs) z) f (contains_here y xs), ap p (sym f) ∙ t)
        | inr g ↦ (let r = filter_out p xs x g in (contains_later y xs x r.0, r.1))
      ])
      | inr t ↦ (let d = rw t at c in let r = filter_out p xs x d in (contains_later y xs x r.0, r.1))
    ]

pub map_in : {X Y : Type 0} (f : X → Y) (xs : List X) (x : X) → Contains xs x → Contains (map f xs) (f x)
map_in f [] x c = absurd (contains_none x c)
map_in {X} {Y} f (z ∷ xs) x c =
    elim (contains_cases z xs x c) [
      | inl e ↦ subst (λ v. Contains (map f (z ∷ xs)) (f v)) e (contains_here (f z) (map f xs))
      | inr d ↦ contains_later (f z) (map f xs) (f x) (map_in f xs x d)
    ]

pub map_out : {X Y : Type 0} (f : X → Y) (xs : List X) (y : Y) → Contains (map f xs) y → (x : X) × Contains xs x × (f x ≡ y)
map_out f [] y c = absurd (contains_none y c)
map_out f (z ∷ xs) y c =
    elim (contains_cases (f z) (map f xs) y c) [
      | inl e ↦ (z, contains_here z xs, e)
      | inr d ↦ (let r = map_out f xs y d in (r.0, contains_later z xs r.0 r.1, r.2))
    ]

pub flat_in : {X Y : Type 0} (f : X → List Y) (xs : List X) (x : X) (y : Y) → Contains xs x → Contains (f x) y → Contains (flat_map f xs) y
flat_in f [] x y c d = absurd (contains_none x c)
flat_in f (z ∷ xs) x y c d =
    elim (contains_cases z xs x c) [
      | inl e ↦ Contains-append_left (f z) (flat_map f xs) y (subst (λ v. Contains (f v) y) (sym e) d)
      | inr h ↦ Contains-append_right (f z) (flat_map f xs) y (flat_in f xs x y h d)
    ]

pub flat_out : {X Y : Type 0} (f : X → List Y) (xs : List X) (y : Y) → Contains (flat_map f xs) y → (x : X) × Contains xs x × Contains (f x) y
flat_out f [] y c = absurd (contains_none y c)
flat_out f (z ∷ xs) y c =
    elim (Contains-append_cases (f z) (flat_map f xs) y c) [
      | inl d ↦ (z, contains_here z xs, d)
      | inr h ↦ (let r = flat_out f xs y h in (r.0, contains_later z xs r.0 r.1, r.2))
    ]
