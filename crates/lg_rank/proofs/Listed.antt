-- The first elements that were made are the first elements of the list.
use Rattle.std.proofs.Common.{◌≡◌, ℕ, zero, suc, List, [], ◌∷◌, Option, Some, None, slice_get, ◌⊎◌, inl, inr, refl, sym, ◌∙◌, subst, arith, Less, Contains}
use Rattle.std.specs.declared.cmp.Ordering.{Ordering}
use Rattle.std.specs.Cmp.{IsTotalOrder}
use Rattle.std.specs.List.Sorted.{IsStrictlySortedBy}
use Rattle.std.proofs.lemmas.Map.Keys.{sorted_head, sorted_tail}
use Rattle.std.proofs.lemmas.List.Elements.{All-from_recursion, All-contains}
use Rattle.lg_rank.specs.Fronts.{IsIn, IsFront, IsAll, IsListOf}
use Rattle.lg_rank.proofs.Elements.{less_not}

in_tail : {V : Type 0} (y x : V) (xs : List V) → Contains (y ∷ xs) x → (y ≡ x) ⊎ Contains xs x
in_tail y x xs (zero, l, e) = inl e
in_tail y x xs (suc k, l, e) = inr (k, omega arith, e)

in_here : {V : Type 0} (x : V) (xs : List V) → Contains (x ∷ xs) x
in_here x xs = (zero, omega arith, refl)

in_later : {V : Type 0} (y x : V) (xs : List V) → Contains xs x → Contains (y ∷ xs) x
in_later y x xs (k, l, e) = (suc k, omega arith, e)

after_first : {V : Type 0} (cmp : V → V → Ordering) (x y : V) (xs : List V) → IsStrictlySortedBy cmp (x ∷ xs) → Contains xs y → cmp x y ≡ Less
after_first cmp x y xs up i = All-contains (λ z. cmp x z ≡ Less) xs y (All-from_recursion (λ z. cmp x z ≡ Less) xs (sorted_head cmp x xs up)) i

same_first : {V : Type 0} {cmp : V → V → Ordering} → IsTotalOrder cmp → (Has : V → Type 0) (a b : V) (made all : List V) → IsFront cmp Has (a ∷ made) → IsListOf cmp Has (b ∷ all) → a ≡ b
same_first {V} {cmp} total Has a b made all f l =
    let ha : Has a = f.sound 0 a refl in
    let hb : Has b = (l.exactly b).0 (in_here b all) in
    elim (in_tail b a all ((l.exactly a).1 ha)) [
      | inl e ↦ sym e
      | inr i ↦
          let less : cmp b a ≡ Less = after_first cmp b a all l.rise i in
          elim (f.below b hb) [
            | inl k ↦ absurd (above k.0 k.1 less)
            | inr before ↦ absurd (less_not total a a (total.trans a b a (before 0 a refl) less) refl)
          ]
    ]
  where
    above : (k : ℕ) → slice_get (a ∷ made) k ≡ Some b → cmp b a ≡ Less → ⊥
    above zero e less = less_not total b a less (let q : a ≡ b = cc in sym q)
    above (suc k) e less = less_not total a a (total.trans a b a (f.rise 0 (suc k) a b (omega arith) refl e) less) refl

-- what comes after the first
abbrev pub After : {V : Type 0} → (V → V → Ordering) → (V → Type 0) → V → V → Type 0
After cmp Has a v = Has v × (cmp a v ≡ Less)

pub front_after : {V : Type 0} {cmp : V → V → Ordering} → IsTotalOrder cmp → (Has : V → Type 0) (a : V) (made : List V) → IsFront cmp Has (a ∷ made) → IsFront cmp (After cmp Has a) made
front_after {V} {cmp} total Has a made f = record {
  rise = λ i j x y less p q. f.rise (suc i) (suc j) x y (omega arith) p q;
  sound = λ i x p. (f.sound (suc i) x p, f.rise 0 (suc i) a x (omega arith) refl p);
  below = λ v h. elim (f.below v h.0) [
    | inl k ↦ inl (later v k.0 k.1 h.1)
    | inr before ↦ inr (λ i x p. before (suc i) x p)
  ];
}
  where
    later : (v : V) (k : ℕ) → slice_get (a ∷ made) k ≡ Some v → cmp a v ≡ Less → IsIn made v
    later v zero e less = absurd (less_not total a v less (let q : a ≡ v = cc in q))
    later v (suc k) e less = (k, e)

list_after : {V : Type 0} {cmp : V → V → Ordering} → IsTotalOrder cmp → (Has : V → Type 0) (a b : V) (all : List V) → a ≡ b → IsListOf cmp Has (b ∷ all) → IsListOf cmp (After cmp Has a) all
list_after {V} {cmp} total Has a b all e l = record {
  rise = sorted_tail cmp b all l.rise;
  exactly = λ v. (
    (λ i. ((l.exactly v).0 (in_later b v all i), subst (λ (z : V). cmp z v ≡ Less) (sym e) (after_first cmp b v all l.rise i))),
    (λ h. elim (in_tail b v all ((l.exactly v).1 h.0)) [ inl q ↦ absurd (less_not total a v h.1 (e ∙ q)) | inr i ↦ i ]),
  );
}

-- each that was made is that of the list at its place
pub made_listed : {V : Type 0} {cmp : V → V → Ordering} → IsTotalOrder cmp → (Has : V → Type 0) (made all : List V) → IsFront cmp Has made → IsListOf cmp Has all → (i : ℕ) (v : V) → slice_get made i ≡ Some v → slice_get all i ≡ Some v
made_listed total Has [] all f l i v h = absurd cc
made_listed total Has (a ∷ made) [] f l i v h = absurd (let m = (l.exactly a).1 (f.sound 0 a refl) in omega (arith, m.1))
made_listed total Has (a ∷ made) (b ∷ all) f l zero v h = (let e = same_first total Has a b made all f l in cc)
made_listed {V} {cmp} total Has (a ∷ made) (b ∷ all) f l (suc i) v h =
    made_listed total (After cmp Has a) made all (front_after total Has a made f) (list_after total Has a b all (same_first total Has a b made all f l) l) i v h

-- where all were made, the list has no more
pub all_listed : {V : Type 0} {cmp : V → V → Ordering} → IsTotalOrder cmp → (Has : V → Type 0) (made all : List V) → IsFront cmp Has made → IsListOf cmp Has all → IsAll Has made → (i : ℕ) → slice_get made i ≡ None → slice_get all i ≡ None
all_listed total Has [] [] f l every i h = refl
all_listed total Has [] (b ∷ all) f l every i h = absurd (let k = every b ((l.exactly b).0 (in_here b all)) in let e = k.1 in cc)
all_listed total Has (a ∷ made) [] f l every i h = refl
all_listed total Has (a ∷ made) (b ∷ all) f l every zero h = absurd cc
all_listed {V} {cmp} total Has (a ∷ made) (b ∷ all) f l every (suc i) h =
    all_listed total (After cmp Has a) made all (front_after total Has a made f) (list_after total Has a b all (same_first total Has a b made all f l) l) (λ v g. later v (every v g.0).0 (every v g.0).1 g.1) i h
  where
    later : (v : V) (k : ℕ) → slice_get (a ∷ made) k ≡ Some v → cmp a v ≡ Less → IsIn made v
    later v zero e less = absurd (less_not total a v less (let q : a ≡ v = cc in q))
    later v (suc k) e less = (k, e)

-- the value at i, or none where there are fewer
pub nth_listed : {V : Type 0} {cmp : V → V → Ordering} → IsTotalOrder cmp → (Has : V → Type 0) (made all : List V) (i : ℕ) (r : Option V) → IsFront cmp Has made → IsListOf cmp Has all → slice_get made i ≡ r → (r ≡ None → IsAll Has made) → slice_get all i ≡ r
nth_listed total Has made all i None f l e every = all_listed total Has made all f l (every refl) i e
nth_listed total Has made all i (Some v) f l e every = made_listed total Has made all f l i v e
