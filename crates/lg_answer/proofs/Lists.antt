-- Two lists whose elements go together, place by place.
use Rattle.std.proofs.Common.{◌≡◌, ℕ, zero, suc, ◌+◌, ◌<◌, List, [], ◌∷◌, ◌++◌, ◌≤◌, length, get_or, take, Some, All, ap, sym, subst, ◌∙◌}
use Rattle.std.specs.Prelude.{slice_get, slice_index_or}
use Rattle.std.specs.List.{AllZip}
use Rattle.std.proofs.lemmas.List.{take_more, take_all}
use Rattle.std.proofs.lemmas.List.Elements.{All-nil, All-cons, All-append}

module _ {A B : Type 0} (R : A → B → Type 0) where
  zip_push : (xs : List A) (ys : List B) (x : A) (y : B) → AllZip R xs ys → R x y → AllZip R (xs ++ x ∷ []) (ys ++ y ∷ [])
  zip_push [] [] x y all here = (here, tt)
  zip_push [] (b ∷ ys) x y all here = absurd all
  zip_push (a ∷ xs) [] x y all here = absurd all
  zip_push (a ∷ xs) (b ∷ ys) x y all here = (all.0, zip_push xs ys x y all.1 here)

  -- one more place
  pub zip_more : (xs : List A) (ys : List B) (i : ℕ) (d : A) (y : B) → i < length xs → AllZip R (take i xs) ys → R (get_or xs i d) y → AllZip R (take (i + 1) xs) (ys ++ y ∷ [])
  zip_more xs ys i d y less all here = rw (take_more xs i d less) (zip_push (take i xs) ys (get_or xs i d) y all here)

  -- what goes together at a place
  pub zip_at : (xs : List A) (ys : List B) (i : ℕ) (x : A) (d : B) → AllZip R xs ys → slice_get xs i ≡ Some x → R x (get_or ys i d)
  zip_at [] ys i x d all here = let no : ⊥ = cc in absurd no
  zip_at (a ∷ xs) [] i x d all here = absurd all
  zip_at (a ∷ xs) (b ∷ ys) zero x d all here = let e : a ≡ x = cc in rw (← e) all.0
  zip_at (a ∷ xs) (b ∷ ys) (suc i) x d all here = zip_at xs ys i x d all.1 here

-- what goes together at each place, also past the end
pub zip_each : {A B : Type 0} (R : List A → List B → Type 0) → R [] [] → (xs : List (List A)) (ys : List (List B)) → AllZip R xs ys → (i : ℕ) → R (slice_index_or xs i []) (slice_index_or ys i [])
zip_each R none_here [] [] all i = none_here
zip_each R none_here [] (y ∷ ys) all i = absurd all
zip_each R none_here (x ∷ xs) [] all i = absurd all
zip_each R none_here (x ∷ xs) (y ∷ ys) all zero = all.0
zip_each R none_here (x ∷ xs) (y ∷ ys) all (suc i) = zip_each R none_here xs ys all.1 i

-- what holds of one element more, and of all
module _ {A : Type 0} (P : A → Type 0) where
  pub all_more : (xs : List A) (i : ℕ) (x : A) → i < length xs → x ≡ get_or xs i x → P x → All P (take i xs) → All P (take (i + 1) xs)
  all_more xs i x less read here before =
      let longer : take (i + 1) xs ≡ take i xs ++ x ∷ [] = take_more xs i x less ∙ ap (λ y. take i xs ++ y ∷ []) (sym read) in
      rw longer (All-append P (take i xs) (x ∷ []) before (All-cons P x [] here (All-nil P)))

  pub all_taken : (xs : List A) (i : ℕ) → length xs ≤ i → All P (take i xs) → All P xs
  all_taken xs i past all = subst (All P) (take_all i xs past) all
