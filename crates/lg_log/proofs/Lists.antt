-- Lists of codes: what a beginning has, and what stands behind it.
use Rattle.std.proofs.Common.{◌≡◌, ℕ, zero, suc, ◌≤◌, Bool, true, false, eqb, List, [], ◌∷◌, ◌++◌, length, get_or, set, replicate, refl, ap, sym, ◌∙◌, arith}
use Rattle.std.specs.List.{list_any, list_all, IsDistinct, AllByRecursion}
use Rattle.std.proofs.lemmas.Bool.{and_parts, and_from, or_parts, or_from}
use Rattle.std.proofs.lemmas.List.Folds.{list_any-append, list_all-append}
use Rattle.std.proofs.lemmas.Cmp.{nat_eq_equiv}

-- the word just after a beginning
pub get_or-after : (seen rest : List ℕ) → get_or (seen ++ rest) (length seen) 0 ≡ get_or rest 0 0
get_or-after [] rest = refl
get_or-after (x ∷ xs) rest = get_or-after xs rest

pub set-after : (seen rest : List ℕ) (old new : ℕ) → set (seen ++ old ∷ rest) (length seen) new ≡ seen ++ new ∷ rest
set-after [] rest old new = refl
set-after (x ∷ xs) rest old new = ap (λ (l : List ℕ). x ∷ l) (set-after xs rest old new)

pub first_zero : (n : ℕ) → ◌≡◌ {A = ℕ} (get_or (replicate n 0) 0 0) 0
first_zero zero = refl
first_zero (suc n) = refl

module _ (p : ℕ → Bool) where
  pub none_parts : (xs ys : List ℕ) → list_any p (xs ++ ys) ≡ false → (list_any p xs ≡ false) × (list_any p ys ≡ false)
  none_parts xs ys e = or_parts (list_any p xs) (list_any p ys) (sym (list_any-append p xs ys) ∙ e)

  pub none_push : (xs : List ℕ) (c : ℕ) → list_any p xs ≡ false → p c ≡ false → list_any p (xs ++ c ∷ []) ≡ false
  none_push xs c e f = list_any-append p xs (c ∷ []) ∙ or_from (list_any p xs) (list_any p (c ∷ [])) e (or_from (p c) false f refl)

  pub all_push : (xs : List ℕ) (c : ℕ) → list_all p xs ≡ true → p c ≡ true → list_all p (xs ++ c ∷ []) ≡ true
  all_push xs c e f = list_all-append p xs (c ∷ []) ∙ and_from (list_all p xs) (list_all p (c ∷ [])) e (and_from (p c) true f refl)

  -- the element just after a beginning passes
  pub all_next : (xs : List ℕ) (c : ℕ) (ys : List ℕ) → list_all p (xs ++ c ∷ ys) ≡ true → p c ≡ true
  all_next xs c ys e = (and_parts (p c) (list_all p ys) (and_parts (list_all p xs) (list_all p (c ∷ ys)) (sym (list_all-append p xs (c ∷ ys)) ∙ e)).1).0

differs : (x : ℕ) (xs : List ℕ) (c : ℕ) (ys : List ℕ) → AllByRecursion (λ y. eqb x y ≡ false) (xs ++ c ∷ ys) → eqb c x ≡ false
differs x [] c ys h = sym (nat_eq_equiv.symm x c) ∙ h.0
differs x (y ∷ xs) c ys h = differs x xs c ys h.1

-- the element just after a beginning of a list of distinct elements is not in that beginning
pub next_is_fresh : (xs : List ℕ) (c : ℕ) (ys : List ℕ) → IsDistinct eqb (xs ++ c ∷ ys) → list_any (eqb c) xs ≡ false
unfolding IsDistinct
next_is_fresh [] c ys h = refl
next_is_fresh (x ∷ xs) c ys h = or_from (eqb c x) (list_any (eqb c) xs) (differs x xs c ys h.0) (next_is_fresh xs c ys h.1)

-- of two beginnings of one list the shorter begins the longer
pub shorter_begins : (xs r ys s : List ℕ) → xs ++ r ≡ ys ++ s → length xs ≤ length ys → (t : List ℕ) × (ys ≡ xs ++ t) × (r ≡ t ++ s)
shorter_begins [] r ys s e le = (ys, refl, e)
shorter_begins (x ∷ xs) r [] s e le = absurd (omega arith)
shorter_begins (x ∷ xs) r (y ∷ ys) s e le =
    let t = shorter_begins xs r ys s (cc e) (omega arith) in
    (t.0, cc (e, t.1), t.2)
