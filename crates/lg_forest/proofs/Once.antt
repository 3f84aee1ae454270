-- Lists in which no value stands twice.
use Rattle.std.proofs.Common.{◌≡◌, ℕ, zero, suc, ◌+◌, ◌<◌, ◌≤◌, ◌⊎◌, inl, inr, refl, sym, ap, ◌∙◌, subst, Bool, true, List, [], ◌∷◌, ◌++◌, take, map, length, Option, Some, Contains, slice_get, get_or, arith}
use Rattle.std.proofs.lemmas.Bool.{cases_Bool}
use Rattle.std.proofs.lemmas.List.{take_all}
use Rattle.std.proofs.lemmas.List.Elements.{Contains-push_cases}
use Rattle.std.proofs.Math.Seq.{take-suc}
use Rattle.std.specs.List.{filter}
use Rattle.std.proofs.lemmas.Option.{same_Some, slice_get_within, get_or_from_slice_get, slice_get-get_or}
use Rattle.lg_region.specs.Fronts.{AreOnce}

pub contains_here : {X : Type 0} (x : X) (xs : List X) → Contains (x ∷ xs) x
contains_here x xs = (zero, omega arith, refl)

pub contains_later : {X : Type 0} (y : X) (xs : List X) (x : X) → Contains xs x → Contains (y ∷ xs) x
contains_later y xs x (k, l, e) = (suc k, omega arith, e)

pub contains_none : {X : Type 0} (x : X) → Contains [] x → ⊥
contains_none x (k, l, e) = omega arith

pub contains_cases : {X : Type 0} (y : X) (xs : List X) (x : X) → Contains (y ∷ xs) x → (y ≡ x) ⊎ Contains xs x
contains_cases y xs x (zero, l, e) = inl e
contains_cases y xs x (suc k, l, e) = inr (k, omega arith, e)

pub contains_map : {X Y : Type 0} (f : X → Y) (xs : List X) (x : X) → Contains xs x → Contains (map f xs) (f x)
contains_map f [] x h = absurd (contains_none x h)
contains_map f (y ∷ xs) x (zero, l, e) = subst (λ z. Contains (map f (y ∷ xs)) (f z)) e (contains_here (f y) (map f xs))
contains_map f (y ∷ xs) x (suc k, l, e) = contains_later (f y) (map f xs) (f x) (contains_map f xs x (k, omega arith, e))

pub map_found : {X Y : Type 0} (f : X → Y) (xs : List X) (y : Y) → Contains (map f xs) y → (x : X) × Contains xs x × (f x ≡ y)
map_found f [] y h = absurd (contains_none y h)
map_found f (x ∷ xs) y h = elim (contains_cases (f x) (map f xs) y h) [ inl e ↦ (x, contains_here x xs, e) | inr t ↦ (let r = map_found f xs y t in (r.0, contains_later x xs r.0 r.1, r.2)) ]

pub map_at : {X Y : Type 0} (f : X → Y) (xs : List X) (i : ℕ) (y : Y) → slice_get (map f xs) i ≡ Some y → (x : X) × (slice_get xs i ≡ Some x) × (f x ≡ y)
map_at f [] i y e = absurd (let bad : ⊥ = cc in bad)
map_at f (x ∷ xs) zero y e = (x, refl, same_Some (f x) y e)
map_at f (x ∷ xs) (suc i) y e = map_at f xs i y e

pub map_once : {X Y : Type 0} (f : X → Y) (xs : List X) → ((x y : X) → f x ≡ f y → x ≡ y) → AreOnce xs → AreOnce (map f xs)
map_once f xs inj once i j y p q = let a = map_at f xs i y p in let b = map_at f xs j y q in once i j a.0 a.1 (b.1 ∙ ap Some (inj b.0 a.0 (b.2 ∙ sym a.2)))

pub in_append_right : {X : Type 0} (xs ys : List X) (x : X) → Contains ys x → Contains (xs ++ ys) x
in_append_right [] ys x has = has
in_append_right (y ∷ xs) ys x has = contains_later y (xs ++ ys) x (in_append_right xs ys x has)

-- a key of a table stands beside a value
pub contains_key : {X Y : Type 0} (es : List (X × Y)) (k : X) → Contains (map (λ (e : X × Y). e.0) es) k → (v : Y) × Contains es (k, v)
contains_key [] k h = absurd (contains_none k h)
contains_key {X} {Y} (e ∷ es) k (zero, l, at) = (e.1, subst (λ (z : X). Contains (e ∷ es) (z, e.1)) at (contains_here e es))
contains_key (e ∷ es) k (suc i, l, at) = let r = contains_key es k (i, omega arith, at) in (r.0, contains_later e es (k, r.0) r.1)

pub filter_out : {X : Type 0} (p : X → Bool) (xs : List X) (x : X) → Contains (filter p xs) x → Contains xs x × (p x ≡ true)
filter_out p [] x h = absurd (contains_none x h)
filter_out p (y ∷ xs) x h =
    elim (cases_Bool (p y)) [
      | inl t ↦ (let d = rw t at h in elim (contains_cases y (filter p xs) x d) [
        | inl f ↦ (subst (λ z. Contains (y ∷ xs) z) f (contains_here y xs), ap p (sym f) ∙ t)
        | inr g ↦ (let r = filter_out p xs x g in (contains_later y xs x r.0, r.1))
      ])
      | inr t ↦ (let d = rw t at h in let r = filter_out p xs x d in (contains_later y xs x r.0, r.1))
    ]

-- an element stands at a place, and what stands at a place is an element
pub place_of : {X : Type 0} (xs : List X) (x : X) → Contains xs x → (i : ℕ) × (slice_get xs i ≡ Some x)
place_of xs x (i, lt, at) = (i, subst (λ z. slice_get xs i ≡ Some z) at (slice_get-get_or xs i x lt))

pub contains_at : {X : Type 0} (xs : List X) (i : ℕ) (x : X) → slice_get xs i ≡ Some x → Contains xs x
contains_at xs i x at = (i, slice_get_within xs i x at, get_or_from_slice_get xs i x x at)

pub once_none : {X : Type 0} → AreOnce {A = X} []
once_none = λ i j x p q. absurd (let n = slice_get_within [] i x p in omega arith)

pub once_tail : {X : Type 0} (x : X) (xs : List X) → AreOnce (x ∷ xs) → AreOnce xs
once_tail x xs once = λ i j y p q. let e = once (suc i) (suc j) y p q in omega arith

pub once_head : {X : Type 0} (x : X) (xs : List X) → AreOnce (x ∷ xs) → Contains xs x → ⊥
once_head x xs once has = let p = place_of xs x has in let e = once zero (suc p.0) x refl p.1 in omega arith

some_is : {X : Type 0} (x y : X) → ◌≡◌ {A = Option X} (Some x) (Some y) → x ≡ y
some_is x y h = cc

pub once_cons : {X : Type 0} (x : X) (xs : List X) → (Contains xs x → ⊥) → AreOnce xs → AreOnce (x ∷ xs)
once_cons {X} x xs new once = at
  where
    at : (i j : ℕ) (y : X) → slice_get (x ∷ xs) i ≡ Some y → slice_get (x ∷ xs) j ≡ Some y → i ≡ j
    at zero zero y p q = refl
    at zero (suc j) y p q = absurd (new (subst (λ z. Contains xs z) (sym (some_is x y p)) (contains_at xs j y q)))
    at (suc i) zero y p q = absurd (new (subst (λ z. Contains xs z) (sym (some_is x y q)) (contains_at xs i y p)))
    at (suc i) (suc j) y p q = ap suc (once i j y p q)

-- what holds of the elements before a place, and of the one there
pub each_more : {X : Type 0} (P : X → Type 0) (xs : List X) (i : ℕ) (d x : X) → i < length xs → x ≡ get_or xs i d → ((y : X) → Contains (take i xs) y → P y) → P x → (y : X) → Contains (take (i + 1) xs) y → P y
each_more P xs i d x lt at before here y has =
    let next : i + 1 ≡ suc i = omega arith in
    let e : take (i + 1) xs ≡ take i xs ++ x ∷ [] = ap (λ z. take z xs) next ∙ take-suc xs i d lt ∙ ap (λ z. take i xs ++ z ∷ []) (sym at) in
    elim (Contains-push_cases (take i xs) x y (subst (λ z. Contains z y) e has)) [ inl a ↦ before y a | inr f ↦ subst P f here ]

pub each_all : {X : Type 0} (P : X → Type 0) (xs : List X) (i : ℕ) → length xs ≤ i → ((y : X) → Contains (take i xs) y → P y) → (y : X) → Contains xs y → P y
each_all P xs i end before y has = before y (subst (λ z. Contains z y) (sym (take_all i xs end)) has)
