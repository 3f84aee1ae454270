-- Lists of values that are ordered as other values are.
use Rattle.std.proofs.Common.{◌≡◌, ◌+◌, ◌<◌, Bool, true, false, cond, List, [], ◌∷◌, length, map, get_or, refl, sym, ap, ◌∙◌, arith, is_lt, is_eq}
use Rattle.std.specs.declared.cmp.Ordering.{Ordering}
use Rattle.std.specs.Ordering.{eq_by_cmp}
use Rattle.std.specs.List.{All, dedup, dedup_from}
use Rattle.std.specs.List.Sorted.{IsSorted}
use Rattle.std.proofs.lemmas.List.{length-map, get_or-map}
use Rattle.std.proofs.lemmas.List.Elements.{All-head, All-tail}

cond_map : {A B : Type 0} (f : A → B) (b : Bool) (ps : List A) (k : A) (qs : List A) → cond b (map f ps) (f k ∷ map f qs) ≡ map f (cond b ps (k ∷ qs))
cond_map f true ps k qs = refl
cond_map f false ps k qs = refl

module _ {A B : Type 0} (f : A → B) (Good : A → Type 0) (one : A → A → Ordering) (other : B → B → Ordering)
    (alike : (a b : A) → Good a → Good b → one a b ≡ other (f a) (f b)) where
  sorted_map_from : (e : A) (up : List A) → All Good up → IsSorted one up → IsSorted other (map f up)
  sorted_map_from e up good sorted k d low within =
      let next : k + 1 < length up = omega (arith, within, length-map up f) in
      let this : k < length up = omega (arith, next) in
      let a = get_or up (k + 1) e in
      let b = get_or up k e in
      let first : get_or (map f up) (k + 1) d ≡ f a = get_or-map f up (k + 1) e d next in
      let second : get_or (map f up) k d ≡ f b = get_or-map f up k e d this in
      ap is_lt ((λ i. other (first i) (second i)) ∙ sym (alike a b (good (k + 1) e next) (good k e this))) ∙ sorted k e low next

  pub sorted_map : (up : List A) → All Good up → IsSorted one up → IsSorted other (map f up)
  sorted_map [] good sorted = λ k d low within. absurd (omega (arith, within))
  sorted_map (x ∷ up) good sorted = sorted_map_from x (x ∷ up) good sorted

  dedup_from_map : (k : A) (xs : List A) → Good k → All Good xs → dedup_from (eq_by_cmp other) (f k) (map f xs) ≡ map f (dedup_from (eq_by_cmp one) k xs)
  dedup_from_map k [] p q = refl
  dedup_from_map k (x ∷ xs) p q =
      let good = All-head Good x xs q in
      let rest = All-tail Good x xs q in
      let test : eq_by_cmp other (f x) (f k) ≡ eq_by_cmp one x k = ap is_eq (sym (alike x k good p)) in
      let kept = dedup_from_map k xs p rest in
      let next = dedup_from_map x xs good rest in
      (λ i. cond (test i) (kept i) (f k ∷ next i)) ∙ cond_map f (eq_by_cmp one x k) (dedup_from (eq_by_cmp one) k xs) k (dedup_from (eq_by_cmp one) x xs)

  pub dedup_map : (xs : List A) → All Good xs → dedup (eq_by_cmp other) (map f xs) ≡ map f (dedup (eq_by_cmp one) xs)
  dedup_map [] q = refl
  dedup_map (x ∷ xs) q = dedup_from_map x xs (All-head Good x xs q) (All-tail Good x xs q)
