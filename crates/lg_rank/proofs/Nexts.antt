-- What comes after a front, read off a longer one.
use Rattle.std.proofs.Common.{◌≡◌, ℕ, zero, suc, ◌<◌, List, [], ◌∷◌, ◌++◌, length, get_or, Some, slice_get, inl, inr, refl, sym, ap, ◌∙◌, subst, arith}
use Rattle.std.specs.declared.cmp.Ordering.{Ordering}
use Rattle.std.specs.Cmp.{IsTotalOrder}
use Rattle.std.proofs.lemmas.Bool.{cases_lt}
use Rattle.std.proofs.lemmas.Option.{slice_get_within, slice_get-get_or}
use Rattle.lg_rank.specs.Fronts.{AtMost, IsFront, IsAll}
use Rattle.lg_rank.proofs.Elements.{less_not, push_old, push_here, push_from}
use Rattle.lg_rank.proofs.Listed.{After, front_after}

-- the first of a front is at most each that has Has
first_most : {V : Type 0} {cmp : V → V → Ordering} → (Has : V → Type 0) (a v : V) (xs : List V) → IsFront cmp Has (a ∷ xs) → Has v → AtMost cmp a v
first_most {V} {cmp} Has a v xs f h = elim (f.below v h) [ inl k ↦ at_place k.0 k.1 | inr before ↦ inl (before 0 a refl) ]
  where
    at_place : (k : ℕ) → slice_get (a ∷ xs) k ≡ Some v → AtMost cmp a v
    at_place zero e = inr cc
    at_place (suc k) e = inl (f.rise 0 (suc k) a v (omega arith) refl e)

heads_same : {V : Type 0} {cmp : V → V → Ordering} → IsTotalOrder cmp → (Has : V → Type 0) (a b : V) (xs ys : List V) → IsFront cmp Has (a ∷ xs) → IsFront cmp Has (b ∷ ys) → a ≡ b
heads_same total Has a b xs ys f g = elim (first_most Has a b xs f (g.sound 0 b refl)) [
  | inr e ↦ e
  | inl less ↦ elim (first_most Has b a ys g (f.sound 0 a refl)) [ inr e ↦ sym e | inl more ↦ absurd (less_not total a a (total.trans a b a less more) refl) ]
]

-- two fronts have the same element at a place
pub fronts_agree : {V : Type 0} {cmp : V → V → Ordering} → IsTotalOrder cmp → (Has : V → Type 0) (xs ys : List V) → IsFront cmp Has xs → IsFront cmp Has ys → (i : ℕ) (a b : V) → slice_get xs i ≡ Some a → slice_get ys i ≡ Some b → a ≡ b
fronts_agree total Has [] ys f g i a b p q = absurd cc
fronts_agree total Has (x ∷ xs) [] f g i a b p q = absurd cc
fronts_agree total Has (x ∷ xs) (y ∷ ys) f g zero a b p q = (let e = heads_same total Has x y xs ys f g in cc)
fronts_agree {V} {cmp} total Has (x ∷ xs) (y ∷ ys) f g (suc i) a b p q =
    let e = heads_same total Has x y xs ys f g in
    fronts_agree total (After cmp Has x) xs ys (front_after total Has x xs f) (subst (λ (t : V). IsFront cmp (After cmp Has t) ys) (sym e) (front_after total Has y ys g)) i a b p q

-- the first elements of a front are a front
front_part : {V : Type 0} {cmp : V → V → Ordering} (Has : V → Type 0) (made xs : List V) → IsFront cmp Has made → ((i : ℕ) (a : V) → slice_get xs i ≡ Some a → slice_get made i ≡ Some a) → ((i : ℕ) (a : V) → i < length xs → slice_get made i ≡ Some a → slice_get xs i ≡ Some a) → IsFront cmp Has xs
front_part {V} {cmp} Has made xs f to from = record {
  rise = λ i j a b less p q. f.rise i j a b less (to i a p) (to j b q);
  sound = λ i a p. f.sound i a (to i a p);
  below = λ v h. elim (f.below v h) [
    | inl k ↦ elim (cases_lt k.0 (length xs)) [
      | inl less ↦ inl (k.0, from k.0 v less k.1)
      | inr more ↦ inr (λ i a p. let l = slice_get_within xs i a p in f.rise i k.0 a v (omega arith) (to i a p) k.1)
    ]
    | inr before ↦ inr (λ i a p. before i a (to i a p))
  ];
}

-- the next of a front is that of a longer one at its length
pub next_some : {V : Type 0} {cmp : V → V → Ordering} → IsTotalOrder cmp → (Has : V → Type 0) (gs made : List V) (v : V) → IsFront cmp Has gs → IsFront cmp Has made → slice_get made (length gs) ≡ Some v → IsFront cmp Has (gs ++ v ∷ [])
next_some {V} {cmp} total Has gs made v f g at =
    let within = slice_get_within made (length gs) v at in
    front_part Has made (gs ++ v ∷ []) g
    (λ i a p. elim (push_from gs v i a p) [
      | inl old ↦ (let l = slice_get_within gs i a old in let here = slice_get-get_or made i v (omega arith) in here ∙ ap Some (fronts_agree total Has made gs g f i (get_or made i v) a here old))
      | inr last ↦ (λ k. slice_get made (last.0 k)) ∙ at ∙ ap Some (sym last.1)
    ])
    (λ i a l q. elim (cases_lt i (length gs)) [
      | inl less ↦ (let here = slice_get-get_or gs i v less in push_old gs v i a (here ∙ ap Some (fronts_agree total Has gs made f g i (get_or gs i v) a here q)))
      | inr more ↦ (
          let e : i ≡ length gs = (let m = pushed_long gs v in omega arith) in
          let p : slice_get made (length gs) ≡ Some a = (λ k. slice_get made (sym e k)) ∙ q in
          let same : v ≡ a = cc in (λ k. slice_get (gs ++ v ∷ []) (e k)) ∙ push_here gs v ∙ ap Some same)
    ])
  where
    pushed_long : (xs : List V) (x : V) → length (xs ++ x ∷ []) ≡ suc (length xs)
    pushed_long [] x = refl
    pushed_long (y ∷ xs) x = ap suc (pushed_long xs x)

-- or none, where all stand before that place
pub next_none : {V : Type 0} {cmp : V → V → Ordering} → IsTotalOrder cmp → (Has : V → Type 0) (gs made : List V) → IsFront cmp Has gs → IsFront cmp Has made → ((v : V) → Has v → (j : ℕ) × (j < length gs) × (slice_get made j ≡ Some v)) → IsAll Has gs
next_none total Has gs made f g all v h =
    let j = all v h in
    let here = slice_get-get_or gs j.0 v j.1 in
    (j.0, here ∙ ap Some (fronts_agree total Has gs made f g j.0 (get_or gs j.0 v) v here j.2))
