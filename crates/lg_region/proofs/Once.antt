-- Lists that have the values of a predicate, each once.
use Rattle.std.proofs.Common.{◌≡◌, ◌↔◌, ℕ, zero, suc, ◌+◌, ◌<◌, ◌≤◌, List, [], ◌∷◌, ◌++◌, length, map, get_or, refl, sym, ◌∙◌, ap, subst, Some, ◌⊎◌, inl, inr, Contains, arith, append_assoc, append-nil, Result, Ok, Err, OnOk, IfOk}
use Rattle.std.specs.List.{flat_map, slice_get}
use Rattle.std.proofs.lemmas.Bool.{cases_lt}
use Rattle.std.proofs.lemmas.List.Elements.{Contains-append_left, Contains-append_right, Contains-append_cases}
use Rattle.std.proofs.lemmas.Option.{same_Some, slice_get_within, slice_get-get_or}
use Rattle.lg_region.specs.Fronts.{AreOnce}
use Rattle.lg_region.specs.Ways.{AreExactly, AddsExactly}
use Rattle.lg_base.proofs.Elements.{contains_here, contains_none, contains_cases, flat_in, flat_out, map_in, map_out}
use Rattle.lg_region.proofs.Numbers.{contains_get, get_contains}

pub append_cases : {X : Type 0} (xs ys : List X) (i : ℕ) (x : X) → slice_get (xs ++ ys) i ≡ Some x → (slice_get xs i ≡ Some x) ⊎ ((j : ℕ) × (i ≡ length xs + j) × (slice_get ys j ≡ Some x))
append_cases [] ys i x e = inr (i, omega arith, e)
append_cases (z ∷ xs) ys zero x e = inl e
append_cases (z ∷ xs) ys (suc i) x e =
    elim (append_cases xs ys i x e) [ inl h ↦ inl h | inr h ↦ (let b = h.1 in inr (h.0, omega arith, h.2)) ]

pub once_none : {X : Type 0} → AreOnce {A = X} []
once_none i j x e f = absurd cc

pub once_one : {X : Type 0} (x : X) → AreOnce (x ∷ [])
once_one x i j y e f = let a = slice_get_within (x ∷ []) i y e in let b = slice_get_within (x ∷ []) j y f in omega arith

pub once_append : {X : Type 0} (xs ys : List X) → AreOnce xs → AreOnce ys → ((x : X) → Contains xs x → Contains ys x → ⊥) → AreOnce (xs ++ ys)
once_append xs ys ox oy d i j x e f =
    elim (append_cases xs ys i x e) [
      | inl h ↦ elim (append_cases xs ys j x f) [
        | inl k ↦ ox i j x h k
        | inr k ↦ absurd (d x (get_contains xs i x h) (get_contains ys k.0 x k.2))
      ]
      | inr h ↦ elim (append_cases xs ys j x f) [
        | inl k ↦ absurd (d x (get_contains xs j x k) (get_contains ys h.0 x h.2))
        | inr k ↦ (let s = oy h.0 k.0 x h.2 k.2 in let a = h.1 in let b = k.1 in omega arith)
      ]
    ]

pub once_cons : {X : Type 0} (x : X) (xs : List X) → AreOnce xs → (Contains xs x → ⊥) → AreOnce (x ∷ xs)
once_cons x xs o n = once_append (x ∷ []) xs (once_one x) o (λ y c d. elim (contains_cases x [] y c) [ inl e ↦ n (subst (λ z. Contains xs z) (sym e) d) | inr h ↦ contains_none y h ])

pub once_tail : {X : Type 0} (x : X) (xs : List X) → AreOnce (x ∷ xs) → AreOnce xs
once_tail x xs o i j y e f = let s = o (suc i) (suc j) y e f in omega arith

pub once_head : {X : Type 0} (x : X) (xs : List X) → AreOnce (x ∷ xs) → Contains xs x → ⊥
once_head x xs o c = let g = contains_get xs x c in let s = o 0 (suc g.0) x refl g.2 in omega arith

pub once_map : {X Y : Type 0} (f : X → Y) (xs : List X) → ((x y : X) → f x ≡ f y → x ≡ y) → AreOnce xs → AreOnce (map f xs)
once_map f [] inj o = once_none
once_map {X} {Y} f (x ∷ xs) inj o =
    once_cons (f x) (map f xs) (once_map f xs inj (once_tail x xs o))
    (λ c. let r = map_out f xs (f x) c in once_head x xs o (subst (λ z. Contains xs z) (inj r.0 x r.2) r.1))

-- the pieces have each value once, and no two of them one value
pub once_flat : {X Y : Type 0} (g : X → List Y) (xs : List X) → AreOnce xs → ((x : X) → AreOnce (g x)) → ((x y : X) (z : Y) → Contains (g x) z → Contains (g y) z → x ≡ y) → AreOnce (flat_map g xs)
once_flat g [] o each apart = once_none
once_flat g (x ∷ xs) o each apart =
    once_append (g x) (flat_map g xs) (each x) (once_flat g xs (once_tail x xs o) each apart)
    (λ z c d. let r = flat_out g xs z d in once_head x xs o (subst (λ v. Contains xs v) (sym (apart x r.0 z c r.2)) r.1))

pub exactly_same : {X : Type 0} {P : X → Type 0} (xs ys : List X) → xs ≡ ys → AreExactly ys P → AreExactly xs P
exactly_same {X} {P} xs ys e h = subst (λ z. AreExactly z P) (sym e) h

pub exactly_none : {X : Type 0} (P : X → Type 0) → ((x : X) → P x → ⊥) → AreExactly [] P
exactly_none P n = record { each = λ x. (λ c. absurd (contains_none x c), λ p. absurd (n x p)); once = once_none }

pub exactly_one : {X : Type 0} (x : X) → AreExactly (x ∷ []) (λ y. x ≡ y)
exactly_one x = record {
  each = λ y. (λ c. elim (contains_cases x [] y c) [ inl e ↦ e | inr h ↦ absurd (contains_none y h) ], λ e. subst (λ z. Contains (x ∷ []) z) e (contains_here x []));
  once = once_one x;
}

pub exactly_as : {X : Type 0} (xs : List X) (P Q : X → Type 0) → ((x : X) → P x ↔ Q x) → AreExactly xs P → AreExactly xs Q
exactly_as xs P Q h are = record { each = λ x. (λ c. (h x).0 ((are.each x).0 c), λ q. (are.each x).1 ((h x).1 q)); once = are.once }

pub exactly_append : {X : Type 0} (xs ys : List X) (P Q : X → Type 0) → AreExactly xs P → AreExactly ys Q → ((x : X) → P x → Q x → ⊥) → AreExactly (xs ++ ys) (λ x. P x ⊎ Q x)
exactly_append xs ys P Q a b apart = record {
  each = λ x. (
    λ c. elim (Contains-append_cases xs ys x c) [ inl h ↦ inl ((a.each x).0 h) | inr h ↦ inr ((b.each x).0 h) ],
    λ p. elim p [ inl h ↦ Contains-append_left xs ys x ((a.each x).1 h) | inr h ↦ Contains-append_right xs ys x ((b.each x).1 h) ],
  );
  once = once_append xs ys a.once b.once (λ x c d. apart x ((a.each x).0 c) ((b.each x).0 d));
}

-- values made of two, each from a list
pub exactly_product : {X Y Z : Type 0} (f : X → Y → Z) (xs : List X) (ys : List Y) (P : X → Type 0) (Q : Y → Type 0) → AreExactly xs P → AreExactly ys Q → ((x x' : X) (y y' : Y) → f x y ≡ f x' y' → (x ≡ x') × (y ≡ y'))
    → AreExactly (flat_map (λ x. map (f x) ys) xs) (λ z. (x : X) × (y : Y) × P x × Q y × (f x y ≡ z))
exactly_product f xs ys P Q a b inj = record {
  each = λ z. (
    λ c. let r = flat_out (λ x. map (f x) ys) xs z c in let s = map_out (f r.0) ys z r.2 in (r.0, s.0, (a.each r.0).0 r.1, (b.each s.0).0 s.1, s.2),
    λ (x, y, p, q, e). flat_in (λ x. map (f x) ys) xs x z ((a.each x).1 p) (subst (λ v. Contains (map (f x) ys) v) e (map_in (f x) ys y ((b.each y).1 q))),
  );
  once = once_flat (λ x. map (f x) ys) xs a.once (λ x. once_map (f x) ys (λ y y' e. (inj x x y y' e).1) b.once)
      (λ x x' z c d. let r = map_out (f x) ys z c in let s = map_out (f x') ys z d in (inj x x' r.0 s.0 (r.2 ∙ sym s.2)).0);
}

pub adds_none : {X : Type 0} (xs : List X) (P : X → Type 0) → ((x : X) → P x → ⊥) → AddsExactly xs xs P
adds_none xs P n = record { more = []; added = sym (append-nil xs); exactly = exactly_none P n }

pub adds_as : {X : Type 0} (a b : List X) (P Q : X → Type 0) → ((x : X) → P x ↔ Q x) → AddsExactly a b P → AddsExactly a b Q
adds_as a b P Q e p = record { more = p.more; added = p.added; exactly = exactly_as p.more P Q e p.exactly }

adds_then : {X : Type 0} (a b c : List X) (P Q R : X → Type 0) → AddsExactly a b P → AddsExactly b c Q → ((x : X) → P x → Q x → ⊥) → ((x : X) → (P x ⊎ Q x) ↔ R x) → AddsExactly a c R
adds_then a b c P Q R p q d e = record {
  more = p.more ++ q.more;
  added = q.added ∙ ap (λ z. z ++ q.more) p.added ∙ append_assoc a p.more q.more;
  exactly = exactly_as (p.more ++ q.more) (λ x. P x ⊎ Q x) R e (exactly_append p.more q.more P Q p.exactly q.exactly d);
}

-- what was added to nothing
pub from_none : {X : Type 0} (xs : List X) (P : X → Type 0) → AddsExactly [] xs P → AreExactly xs P
from_none xs P x = subst (λ z. AreExactly z P) (sym x.added) x.exactly

-- a value has one of the first predicates
abbrev pub Upto : {X : Type 0} → (ℕ → X → Type 0) → ℕ → X → Type 0
Upto R i x = (j : ℕ) × (j < i) × R j x

-- no value has two predicates
abbrev pub HaveOne : {X : Type 0} → (ℕ → X → Type 0) → Type 0
HaveOne {X} R = (i j : ℕ) (x : X) → R i x → R j x → i ≡ j

-- the values of one predicate more
module _ {X : Type 0} (R : ℕ → X → Type 0) where
  pub adds_next : (i : ℕ) (a b c : List X) → HaveOne R → AddsExactly a b (Upto R i) → AddsExactly b c (R i) → AddsExactly a c (Upto R (i + 1))
  adds_next i a b c one p q =
      adds_then a b c (Upto R i) (R i) (Upto R (i + 1)) p q
      (λ x (j, l, r) s. let e = one j i x r s in omega arith)
      (λ x. (
        λ h. elim h [ inl (j, l, r) ↦ (j, omega arith, r) | inr s ↦ (i, omega arith, s) ],
        λ (j, l, r). elim (cases_lt j i) [ inl h ↦ inl (j, h, r) | inr h ↦ (let e : j ≡ i = omega arith in inr (subst (λ z. R z x) e r)) ],
      ))

-- what the value at a place of a list has
abbrev pub OfPlace : {X Y : Type 0} → (X → Y → Type 0) → List X → ℕ → Y → Type 0
OfPlace {X} R xs i y = (x : X) × (slice_get xs i ≡ Some x) × R x y

-- the values of one element more, and of all
module _ {X Y : Type 0} (R : X → Y → Type 0) (xs : List X) where
  pub adds_at : (none : X) (i : ℕ) (a b c : List Y) → HaveOne (OfPlace R xs) → i < length xs → AddsExactly a b (Upto (OfPlace R xs) i) → AddsExactly b c (R (get_or xs i none)) → AddsExactly a c (Upto (OfPlace R xs) (i + 1))
  adds_at none i a b c one l p q =
      let x = get_or xs i none in
      let at = slice_get-get_or xs i none l in
      adds_next (OfPlace R xs) i a b c one p
      (adds_as b c (R x) (OfPlace R xs i) (λ y. (λ r. (x, at, r), λ (z, at', r). subst (λ v. R v y) (same_Some z x (sym at' ∙ at)) r)) q)

  pub adds_all : (i : ℕ) (a b : List Y) (P : Y → Type 0) → length xs ≤ i → ((y : Y) → ((x : X) × Contains xs x × R x y) ↔ P y) → AddsExactly a b (Upto (OfPlace R xs) i) → AddsExactly a b P
  adds_all i a b P l e p =
      adds_as a b (Upto (OfPlace R xs) i) P
      (λ y. (
        λ (j, m, (x, at, r)). (e y).0 (x, get_contains xs j x at, r),
        λ h. let (x, c, r) = (e y).1 h in let g = contains_get xs x c in let k = g.1 in (g.0, omega arith, (x, g.2, r)),
      )) p

pub on_ok : {T E : Type 0} (r : Result T E) {P Q : Type 0} → OnOk r P → (P → Q) → OnOk r Q
on_ok (Ok x) p f = f p
on_ok (Err e) p f = tt

pub if_ok : {T E : Type 0} (r : Result T E) {P Q : T → Type 0} → IfOk r P → ((x : T) → P x → Q x) → IfOk r Q
if_ok (Ok x) p f = f x p
if_ok (Err e) p f = tt
