-- The numbers of edits: how many there are, how they rise, and the edits that they name.
use Rattle.std.proofs.Common.{◌≡◌, ℕ, zero, suc, ◌+◌, ◌-◌, ◌<◌, ◌≤◌, Bool, true, false, cond, leb, ltb, ltb-true, List, [], ◌∷◌, ◌++◌, length, map, filter, take, drop, count_by, get_or, slice_get, Some, refl, ap, sym, ◌∙◌, arith, le-leb, append_assoc, subst, true≢false, add-one}
use Rattle.std.proofs.lemmas.Bool.{lt-leb}
use Rattle.std.proofs.lemmas.Option.{none-some, same_Some, slice_get_read, slice_get_within, get_or_from_slice_get}
use Rattle.std.proofs.lemmas.List.{length-map, get_or-map}
use Rattle.std.proofs.Math.Seq.{drop-cons}
use Rattle.lg_script.specs.declared.command.Command.{Command}
use Rattle.lg_script.specs.declared.command.Command.TheVariants as commands
use Rattle.lg_script.specs.EditNumbers.{edit_numbers}
use Rattle.lg_script.specs.Histories.{numbered}
use Rattle.lg_edit.specs.declared.edit.Edit.{Edit}
use Rattle.std.specs.List.{enumerate_from}
use Rattle.std.specs.List.Sorted.{IsNonDecreasingBy, IsPartitionPoint}
use Rattle.std.proofs.lemmas.List.Sums.{sum_by-cons}
use Rattle.lg_edit.specs.Edits.{EditView}
use Rattle.lg_script.specs.Commands.{CommandView, makes, is_edit, command_view}

-- the numbers of the edits where the first command has this number
abbrev pub numbers_from : ℕ → List CommandView → List ℕ
numbers_from n commands = map (λ (m : ℕ × CommandView). m.0) (filter (λ (m : ℕ × CommandView). is_edit m.1) (enumerate_from n commands))

count_cons : (c : CommandView) (cs : List CommandView) → count_by is_edit (c ∷ cs) ≡ cond (is_edit c) 1 0 + count_by is_edit cs
count_cons c cs = sum_by-cons (λ (x : CommandView). cond (is_edit x) 1 0) c cs

pub length-numbers : (n : ℕ) (cs : List CommandView) → length (numbers_from n cs) ≡ count_by is_edit cs
length-numbers n [] = refl
length-numbers n (makes e ∷ cs) = omega (arith, length-numbers (n + 1) cs, count_cons (makes e) cs)
length-numbers n (c ∷ cs) = omega (arith, length-numbers (n + 1) cs, count_cons c cs)

pub at_place : (i : ℕ) (items : List Command) (c : Command) → i < length items → c ≡ get_or items i c
    → drop i (map command_view items) ≡ command_view c ∷ drop (i + 1) (map command_view items)
at_place i items c in_ is =
    let same : get_or (map command_view items) i (command_view c) ≡ command_view c = get_or-map command_view items i c (command_view c) in_ ∙ ap command_view (sym is) in
    rw add-one (drop-cons (map command_view items) i (command_view c) (omega (arith, in_, length-map items command_view)) ∙ ap (λ (x : CommandView). x ∷ drop (suc i) (map command_view items)) same)

pub with_edit : (n : ℕ) (c : CommandView) (cs : List CommandView) → is_edit c ≡ true → numbers_from n (c ∷ cs) ≡ n ∷ numbers_from (n + 1) cs
with_edit n (makes e) cs is = refl
with_edit n (c) cs is = absurd (true≢false (sym is))

pub without_edit : (n : ℕ) (c : CommandView) (cs : List CommandView) → is_edit c ≡ false → numbers_from n (c ∷ cs) ≡ numbers_from (n + 1) cs
without_edit n (makes e) cs is = absurd (true≢false is)
without_edit n (c) cs is = refl

-- the numbers from the place of a command on
pub from_edit : (n i : ℕ) (items : List Command) (c : Command) → i < length items → c ≡ get_or items i c → is_edit (command_view c) ≡ true
    → numbers_from n (drop i (map command_view items)) ≡ n ∷ numbers_from (n + 1) (drop (i + 1) (map command_view items))
from_edit n i items c in_ is edits = ap (numbers_from n) (at_place i items c in_ is) ∙ with_edit n (command_view c) (drop (i + 1) (map command_view items)) edits

pub from_other : (n i : ℕ) (items : List Command) (c : Command) → i < length items → c ≡ get_or items i c → is_edit (command_view c) ≡ false
    → numbers_from n (drop i (map command_view items)) ≡ numbers_from (n + 1) (drop (i + 1) (map command_view items))
from_other n i items c in_ is edits = ap (numbers_from n) (at_place i items c in_ is) ∙ without_edit n (command_view c) (drop (i + 1) (map command_view items)) edits

-- one number more is found
pub number_pushed : (done whole : List ℕ) (number i : ℕ) (items : List Command) (c : Command) → number ≡ i → i < length items → c ≡ get_or items i c → is_edit (command_view c) ≡ true
    → done ++ numbers_from (1 + i) (drop i (map command_view items)) ≡ whole
    → (done ++ (number + 1) ∷ []) ++ numbers_from (1 + (i + 1)) (drop (i + 1) (map command_view items)) ≡ whole
number_pushed done whole number i items c same in_ is edits left =
    let rest : ℕ → List ℕ = λ (n : ℕ). numbers_from n (drop (i + 1) (map command_view items)) in
    let here : number + 1 ≡ 1 + i = omega (arith, same) in
    let next : 1 + (i + 1) ≡ 1 + i + 1 = omega arith in
    append_assoc done ((number + 1) ∷ []) (rest (1 + (i + 1))) ∙ (λ j. done ++ here j ∷ rest (next j)) ∙ ap (λ (l : List ℕ). done ++ l) (sym (from_edit (1 + i) i items c in_ is edits)) ∙ left

pub number_passed : (done whole : List ℕ) (i : ℕ) (items : List Command) (c : Command) → i < length items → c ≡ get_or items i c → is_edit (command_view c) ≡ false
    → done ++ numbers_from (1 + i) (drop i (map command_view items)) ≡ whole → done ++ numbers_from (1 + (i + 1)) (drop (i + 1) (map command_view items)) ≡ whole
number_passed done whole i items c in_ is edits left =
    let next : 1 + (i + 1) ≡ 1 + i + 1 = omega arith in
    ap (λ (n : ℕ). done ++ numbers_from n (drop (i + 1) (map command_view items))) next ∙ ap (λ (l : List ℕ). done ++ l) (sym (from_other (1 + i) i items c in_ is edits)) ∙ left

-- the edit of an index
pub names_edit : (n : ℕ) (cs : List CommandView) (i k : ℕ) → slice_get (numbers_from n cs) i ≡ Some k
    → (j : ℕ) × (e : EditView) × (k ≡ n + j) × (slice_get cs j ≡ Some (makes e))
names_edit n [] i k is = absurd (none-some k is)
names_edit n (makes e ∷ cs) zero k is = (0, e, omega (arith, same_Some n k is), refl)
names_edit n (makes e ∷ cs) (suc i) k is = let t = names_edit (n + 1) cs i k is in (suc t.0, t.1, omega (arith, t.2), t.3)
names_edit n (c ∷ cs) i k is = let t = names_edit (n + 1) cs i k is in (suc t.0, t.1, omega (arith, t.2), t.3)

-- the index of an edit is the number of edits before it
pub number_of_edit : (n : ℕ) (cs : List CommandView) (j : ℕ) (e : EditView) → slice_get cs j ≡ Some (makes e)
    → slice_get (numbers_from n cs) (count_by is_edit (take j cs)) ≡ Some (n + j)
number_of_edit n [] j e is = absurd (none-some (makes e) is)
number_of_edit n (makes e' ∷ cs) zero e is = ap Some (omega arith)
number_of_edit n (makes e' ∷ cs) (suc j) e is =
    let more : count_by is_edit (makes e' ∷ take j cs) ≡ suc (count_by is_edit (take j cs)) = omega (arith, count_cons (makes e') (take j cs)) in
    subst (λ (k : ℕ). slice_get (numbers_from n (makes e' ∷ cs)) k ≡ Some (n + suc j)) (sym more) (number_of_edit (n + 1) cs j e is ∙ ap Some (omega arith))
number_of_edit n (c ∷ cs) zero e is = absurd (true≢false (sym (ap is_edit (same_Some c (makes e) is))))
number_of_edit n (c ∷ cs) (suc j) e is =
    let same : count_by is_edit (c ∷ take j cs) ≡ count_by is_edit (take j cs) = omega (arith, count_cons c (take j cs)) in
    subst (λ (k : ℕ). slice_get (numbers_from n (c ∷ cs)) k ≡ Some (n + suc j)) (sym same) (number_of_edit (n + 1) cs j e is ∙ ap Some (omega arith))

pub index_below : (cs : List CommandView) (j : ℕ) (e : EditView) → slice_get cs j ≡ Some (makes e) → count_by is_edit (take j cs) < count_by is_edit cs
index_below cs j e is = omega (arith, slice_get_within (numbers_from 1 cs) (count_by is_edit (take j cs)) (1 + j) (number_of_edit 1 cs j e is), length-numbers 1 cs)

at_least : (n : ℕ) (cs : List CommandView) (k d : ℕ) → k < length (numbers_from n cs) → n ≤ get_or (numbers_from n cs) k d
at_least n [] k d h = absurd (omega (arith, h))
at_least n (makes e ∷ cs) zero d h = omega arith
at_least n (makes e ∷ cs) (suc k) d h = let le = at_least (n + 1) cs k d (omega (arith, h)) in omega (arith, le)
at_least n (c ∷ cs) k d h = let le = at_least (n + 1) cs k d h in omega (arith, le)

pub numbers_rise : (n : ℕ) (cs : List CommandView) → IsNonDecreasingBy (λ (x : ℕ). x) (numbers_from n cs)
numbers_rise n [] i j d le h = absurd (omega (arith, h))
numbers_rise n (makes e ∷ cs) zero zero d le h = omega arith
numbers_rise n (makes e ∷ cs) zero (suc j) d le h = let low = at_least (n + 1) cs j d (omega (arith, h)) in omega (arith, low)
numbers_rise n (makes e ∷ cs) (suc i) zero d le h = absurd (omega (arith, le))
numbers_rise n (makes e ∷ cs) (suc i) (suc j) d le h = numbers_rise (n + 1) cs i j d (omega (arith, le)) (omega (arith, h))
numbers_rise n (c ∷ cs) i j d le h = numbers_rise (n + 1) cs i j d le h

-- ---- how many numbers are no greater than a place

none_before : (n : ℕ) (cs : List CommandView) (place : ℕ) → place < n → count_by (λ (x : ℕ). leb x place) (numbers_from n cs) ≡ 0
none_before n [] place low = refl
none_before n (makes e ∷ cs) place low =
    omega (arith, sum_by-cons (λ (x : ℕ). cond (leb x place) 1 0) n (numbers_from (n + 1) cs), ap {B = ℕ} (λ (b : Bool). cond b 1 0) (lt-leb n place low), none_before (n + 1) cs place (omega (arith, low)))
none_before n (c ∷ cs) place low = none_before (n + 1) cs place (omega (arith, low))

pub count_before : (m d : ℕ) (cs : List CommandView) (place : ℕ) → place ≡ m + d → count_by (λ (x : ℕ). leb x place) (numbers_from (m + 1) cs) ≡ count_by is_edit (take d cs)
count_before m zero cs place is = none_before (m + 1) cs place (omega (arith, is))
count_before m (suc d) [] place is = refl
count_before m (suc d) (makes e ∷ cs) place is =
    omega (
      arith,
      sum_by-cons (λ (x : ℕ). cond (leb x place) 1 0) (m + 1) (numbers_from (m + 1 + 1) cs),
      ap {B = ℕ} (λ (b : Bool). cond b 1 0) (le-leb (m + 1) place (omega (arith, is))),
      count_cons (makes e) (take d cs),
      count_before (m + 1) d cs place (omega (arith, is)),
    )
count_before m (suc d) (c ∷ cs) place is = omega (arith, count_cons c (take d cs), count_before (m + 1) d cs place (omega (arith, is)))

-- a partition point is the count
pub point_counts : (p : ℕ → Bool) (xs : List ℕ) (r : ℕ) → r ≤ length xs → IsPartitionPoint (λ y. p y ≡ true) (λ y. p y ≡ false) xs r → r ≡ count_by p xs
point_counts p [] r le point = omega (arith, le)
point_counts p (x ∷ xs) zero le point =
    let first : p x ≡ false = point.1 0 0 (omega arith) (omega arith) in
    let rest = point_counts p xs 0 (omega arith) ((λ k d low high. absurd (omega (arith, high))), (λ k d low high. point.1 (suc k) d (omega arith) (omega (arith, high)))) in
    omega (arith, sum_by-cons (λ (y : ℕ). cond (p y) 1 0) x xs, ap {B = ℕ} (λ (b : Bool). cond b 1 0) first, rest)
point_counts p (x ∷ xs) (suc r) le point =
    let first : p x ≡ true = point.0 0 0 (omega arith) (omega arith) in
    let rest = point_counts p xs r (omega (arith, le)) ((λ k d low high. point.0 (suc k) d (omega arith) (omega (arith, high))), (λ k d low high. point.1 (suc k) d (omega (arith, low)) (omega (arith, high)))) in
    omega (arith, sum_by-cons (λ (y : ℕ). cond (p y) 1 0) x xs, ap {B = ℕ} (λ (b : Bool). cond b 1 0) first, rest)

-- ---- the edit that is read by its index

pub read_number : (items : List Command) (edits : List ℕ) (index number : ℕ) → edits ≡ edit_numbers (map command_view items) → true ≡ ltb index (length edits) → number ≡ get_or edits index number
    → slice_get (edit_numbers (map command_view items)) index ≡ Some number
read_number items edits index number is in_ read =
    ap (λ (l : List ℕ). slice_get l index) (sym is) ∙ slice_get_read edits (length edits) index number refl (ltb-true index (length edits) (sym in_)) read

-- the command that is read by such a number is an edit
pub read_edit : (items : List Command) (edits : List ℕ) (index number : ℕ) → edits ≡ edit_numbers (map command_view items) → true ≡ ltb index (length edits) → number ≡ get_or edits index number
    → (1 ≤ number) × (number - 1 < length items)
    × ((c : Command) → c ≡ get_or items (number - 1) c → (is_edit (command_view c) ≡ true) × (numbered (map command_view items) number ≡ Some (command_view c)))
read_edit items edits index number same within read =
    let t = names_edit 1 (map command_view items) index number (read_number items edits index number same within read) in
    let j : ℕ = t.0 in
    let inside : j < length items = omega (arith, slice_get_within (map command_view items) j (makes t.1) t.3, length-map items command_view) in
    let here : number - 1 ≡ j = omega (arith, t.2) in
    let next : number ≡ suc j = omega (arith, t.2) in (
      omega (arith, t.2),
      omega (arith, inside, here),
      λ c is.
          let seen : command_view c ≡ makes t.1 =
          ap command_view is ∙ ap (λ (k : ℕ). command_view (get_or items k c)) here ∙ sym (get_or-map command_view items j c (command_view c) inside)
          ∙ get_or_from_slice_get (map command_view items) j (makes t.1) (command_view c) t.3 in
          (ap is_edit seen, ap (numbered (map command_view items)) next ∙ t.3 ∙ ap Some (sym seen)),
    )

pub no_other : (c : Command) → is_edit (command_view c) ≡ true → ((x : Edit) → c ≡ commands.Edit x → ⊥) → ⊥
no_other (commands.Edit x) is not_edit = not_edit x refl
no_other c is not_edit = true≢false (sym is)
