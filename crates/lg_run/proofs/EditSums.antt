-- The edits of scripts, added up: at most one script passes the limit, and some script or none.
use Rattle.std.proofs.Common.{◌≡◌, ℕ, zero, suc, ◌+◌, ◌-◌, ◌≤◌, ◌<◌, List, [], ◌∷◌, length, count_by, take, drop, sum, Some, slice_get, Contains, inl, inr, ◌⊎◌, get_or, refl, sym, ap, subst, ◌∙◌, arith}
use Rattle.std.proofs.lemmas.Bool.{cases_order}
use Rattle.std.proofs.lemmas.List.{length-map}
use Rattle.std.proofs.lemmas.List.Sums.{sum_by-cons, sum_by-take-le}
use Rattle.std.proofs.lemmas.Option.{slice_get-get_or}
use Rattle.std.proofs.Math.Decide.{dec_le}
use Rattle.lg_script.specs.Commands.{CommandView, is_edit}
use Rattle.lg_script.specs.EditNumbers.{edit_counts}
use Rattle.lg_run.specs.Inputs.{HasSome, IsOne, accepted, refused, EDITS, EditsRead, few, many}
use Rattle.lg_run.specs.Lines.{edits_line}
use Rattle.lg_run.proofs.About.{first_name, later_name}

-- ---- sums of the first numbers

sum_first : (x : ℕ) (xs : List ℕ) → sum (x ∷ xs) ≡ x + sum xs
sum_first x xs = sum_by-cons (λ (n : ℕ). n) x xs

sum_taken : (x : ℕ) (xs : List ℕ) (i : ℕ) → sum (take (suc i) (x ∷ xs)) ≡ x + sum (take i xs)
sum_taken x xs i = sum_first x (take i xs)

front_sum : (xs : List ℕ) (i : ℕ) → sum (take i xs) ≤ sum xs
front_sum = sum_by-take-le (λ (n : ℕ). n)

longer_sum : (xs : List ℕ) (i j : ℕ) → i ≤ j → sum (take i xs) ≤ sum (take j xs)
longer_sum [] zero j h = omega arith
longer_sum [] (suc i) zero h = omega arith
longer_sum [] (suc i) (suc j) h = omega arith
longer_sum (x ∷ xs) zero j h = omega arith
longer_sum (x ∷ xs) (suc i) zero h = absurd (omega (arith, h))
longer_sum (x ∷ xs) (suc i) (suc j) h = let more = longer_sum xs i j (omega (arith, h)) in omega (arith, more, sum_taken x xs i, sum_taken x xs j)

-- the numbers pass the limit with this one
abbrev pub PassesAt : ℕ → List ℕ → ℕ → Type 0
PassesAt limit xs i = (sum (take i xs) ≤ limit) × (limit < sum (take (suc i) xs))

passes_once : (limit : ℕ) (xs : List ℕ) (i j : ℕ) → PassesAt limit xs i → PassesAt limit xs j → i ≡ j
passes_once limit xs i j p q = elim (cases_order i j) [
  | inl same ↦ same
  | inr other ↦ elim other [
    | inl less ↦ let rise = longer_sum xs (suc i) j (omega (arith, less)) in absurd (omega (arith, rise, p.1, q.0))
    | inr more ↦ let rise = longer_sum xs (suc j) i (omega (arith, more)) in absurd (omega (arith, rise, q.1, p.0))
  ]
]

-- they stay within the limit, or pass it with one of them
abbrev Passes : ℕ → List ℕ → Type 0
Passes limit xs = (sum xs ≤ limit) ⊎ ((i : ℕ) × (i < length xs) × PassesAt limit xs i)

passes_later : (limit x : ℕ) (xs : List ℕ) → x ≤ limit → Passes (limit - x) xs → Passes limit (x ∷ xs)
passes_later limit x xs h (inl all) = inl (omega (arith, h, all, sum_first x xs))
passes_later limit x xs h (inr (i, within, (low, high))) = inr (suc i, omega (arith, within), (omega (arith, h, low, sum_taken x xs i), omega (arith, h, high, sum_taken x xs (suc i))))

passes : (limit : ℕ) (xs : List ℕ) → Passes limit xs
passes limit [] = inl (omega arith)
passes limit (x ∷ xs) = elim (dec_le x limit) [
  | yes h ↦ passes_later limit x xs h (passes (limit - x) xs)
  | no h ↦ inr (0, omega arith, (omega arith, omega (arith, h, sum_taken x xs 0)))
]

-- ---- the verdict on scripts

same_name : (names : List (List ℕ)) (i j : ℕ) (name other : List ℕ) → i ≡ j → slice_get names i ≡ Some name → slice_get names j ≡ Some other → name ≡ other
same_name names i j name other e p q = let same : Some name ≡ Some other = sym p ∙ ap (slice_get names) e ∙ q in cc

pub one_of_edits : (names : List (List ℕ)) (scripts : List (List CommandView)) → IsOne (EditsRead names scripts)
one_of_edits names scripts _ _ _ _ (few p) (few q) = (refl, refl)
one_of_edits names scripts _ _ _ _ (few p) (many i name at low high) = absurd (omega (arith, p, high, front_sum (edit_counts scripts) (suc i)))
one_of_edits names scripts _ _ _ _ (many i name at low high) (few p) = absurd (omega (arith, p, high, front_sum (edit_counts scripts) (suc i)))
one_of_edits names scripts _ _ _ _ (many i name at low high) (many j other there below above) =
    (refl, ap (λ (n : List ℕ). refused (edits_line n)) (same_name names i j name other (passes_once EDITS (edit_counts scripts) i j (low, high) (below, above)) at there))

pub some_of_edits : (names : List (List ℕ)) (scripts : List (List CommandView)) → length scripts ≡ length names → HasSome (EditsRead names scripts)
some_of_edits names scripts same = elim (passes EDITS (edit_counts scripts)) [
  | inl all ↦ ([], accepted scripts, few all)
  | inr (i, within, (low, high)) ↦ let name = get_or names i [] in
      ([], refused (edits_line name), many i name (slice_get-get_or names i [] (omega (arith, within, same, length-map scripts (count_by is_edit)))) low high)
]

-- ---- the numbers that are left of a row

pub next_left : {A : Type 0} (xs : List A) (i : ℕ) (x : A) (more : List A) → x ∷ more ≡ drop i xs → more ≡ drop (suc i) xs
next_left [] zero x more e = absurd (cc e)
next_left [] (suc i) x more e = absurd (cc e)
next_left (y ∷ ys) zero x more e = cc
next_left (y ∷ ys) (suc i) x more e = next_left ys i x more e

pub next_there : {A : Type 0} (xs : List A) (i : ℕ) (x : A) (more : List A) → x ∷ more ≡ drop i xs → slice_get xs i ≡ Some x
next_there [] zero x more e = absurd (cc e)
next_there [] (suc i) x more e = absurd (cc e)
next_there (y ∷ ys) zero x more e = let same : x ≡ y = cc in ap Some (sym same)
next_there (y ∷ ys) (suc i) x more e = next_there ys i x more e

next_sum : (xs : List ℕ) (i x : ℕ) (more : List ℕ) → x ∷ more ≡ drop i xs → sum (take (suc i) xs) ≡ sum (take i xs) + x
next_sum [] zero x more e = absurd (cc e)
next_sum [] (suc i) x more e = absurd (cc e)
next_sum (y ∷ ys) zero x more e = let same : x ≡ y = cc in omega (arith, same, sum_taken y ys 0)
next_sum (y ∷ ys) (suc i) x more e = let so_far = next_sum ys i x more e in omega (arith, so_far, sum_taken y ys (suc i), sum_taken y ys i)

none_left : (xs : List ℕ) (i : ℕ) → [] ≡ drop i xs → sum (take i xs) ≡ sum xs
none_left [] zero e = refl
none_left [] (suc i) e = refl
none_left (y ∷ ys) zero e = absurd (cc e)
none_left (y ∷ ys) (suc i) e = sum_taken y ys i ∙ ap (λ (n : ℕ). y + n) (none_left ys i e) ∙ sym (sum_first y ys)

-- how many edits are left of the limit before the names and counts that are left of these
pub record IsLeft (names : List (List ℕ)) (counts : List ℕ) (left : ℕ) (names_left : List (List ℕ)) (counts_left : List ℕ) : Type 0 where
  pub at : ℕ
  pub of_names : names_left ≡ drop at names
  pub of_counts : counts_left ≡ drop at counts
  pub so_far : left + sum (take at counts) ≡ EDITS

pub all_left : (names : List (List ℕ)) (counts : List ℕ) → IsLeft names counts EDITS names counts
all_left names counts = record { at = 0; of_names = refl; of_counts = refl; so_far = omega arith }

module _ (names : List (List ℕ)) (counts : List ℕ) (left : ℕ) {names_left : List (List ℕ)} {counts_left : List ℕ} (w : IsLeft names counts left names_left counts_left) where
  module _ (name : List ℕ) (count : ℕ) {more : List (List ℕ)} {others : List ℕ} (names_are : names_left ≡ name ∷ more) (counts_are : counts_left ≡ count ∷ others) where
    at_name : name ∷ more ≡ drop w.at names
    at_name = sym names_are ∙ w.of_names

    at_count : count ∷ others ≡ drop w.at counts
    at_count = sym counts_are ∙ w.of_counts

    pub left_next : count ≤ left → IsLeft names counts (left - count) more others
    left_next h = record {
      at = suc w.at;
      of_names = next_left names w.at name more at_name;
      of_counts = next_left counts w.at count others at_count;
      so_far = omega (arith, h, w.so_far, next_sum counts w.at count others at_count);
    }

    pub left_past : left < count → (i : ℕ) × (slice_get names i ≡ Some name) × PassesAt EDITS counts i
    left_past h = (w.at, next_there names w.at name more at_name, (omega (arith, w.so_far), omega (arith, h, w.so_far, next_sum counts w.at count others at_count)))

  pub left_none : counts_left ≡ [] → sum counts ≤ EDITS
  left_none e = omega (arith, w.so_far, none_left counts w.at (sym e ∙ w.of_counts))

-- ---- a name

pub name_at : (names : List (List ℕ)) (i : ℕ) (name : List ℕ) → slice_get names i ≡ Some name → Contains names name
name_at [] i name e = absurd (cc e)
name_at (other ∷ names) zero name e = let same : other ≡ name = cc in subst (Contains (other ∷ names)) same (first_name other names)
name_at (other ∷ names) (suc i) name e = later_name other names name (name_at names i name e)
