-- What idioms add has few choices.
use Rattle.std.proofs.Common.{◌≡◌, ℕ, zero, suc, ◌+◌, ◌-◌, ◌*◌, ◌<◌, ◌≤◌, true, false, nat_eq, inl, inr, List, [], ◌∷◌, ◌++◌, length, map, take, drop, slice_get, Some, Contains, refl, ap, sym, ◌∙◌, subst, arith, Less}
use Rattle.std.specs.Prelude.{if◌then◌else◌}
use Rattle.std.specs.Cmp.{IsTotalOrder}
use Rattle.std.specs.List.{sum_by}
use Rattle.std.specs.List.Sorted.{IsStrictlySortedBy}
use Rattle.std.specs.declared.cmp.Ordering.{Ordering}
use Rattle.std.proofs.Math.Seq.{split_at}
use Rattle.std.proofs.lemmas.Bool.{cases_Bool, cases_lt}
use Rattle.std.proofs.lemmas.Bool.Decides.{nat_tests}
use Rattle.std.proofs.lemmas.List.Elements.{Contains-append_left, Contains-append_right, Contains-append_cases}
use Rattle.std.proofs.lemmas.List.Sums.{sum_by-cons, sum_by-append}
use Rattle.std.proofs.lemmas.Map.Keys.{sorted_tail}
use Rattle.lg_base.proofs.Elements.{contains_here, contains_later, contains_cases}
use Rattle.lg_gram.specs.Measures.{choice_count}
use Rattle.lg_gram.specs.Trees.{Tree}
use Rattle.lg_token.specs.Bounds.{LISTED_CHOICES}
use Rattle.lg_idiom.specs.Idioms.{Chain, Covers, formula_at, later_formula, chain_choices, word_cmp, AreTaken, no_chain, taken, left_out, AreAdded}
use Rattle.lg_idiom.specs.Overlays.{AddedAreFew}
use Rattle.lg_idiom.specs.Steps.{covers}
use Rattle.lg_idiom.specs.Takings.{choices_of_all}
use Rattle.lg_idiom.proofs.Added.{covers-is, is-covers}
use Rattle.lg_idiom.proofs.Laying.{inside}
use Rattle.lg_idiom.proofs.Rising.{after, not_itself}
use Rattle.lg_idiom.proofs.Sorting.{chains_total}

-- ---- sums

module _ {X : Type 0} where
  sums_add : (f g : X → ℕ) (xs : List X) → sum_by (λ x. f x + g x) xs ≡ sum_by f xs + sum_by g xs
  sums_add f g [] = refl
  sums_add f g (x ∷ xs) =
      let both = sum_by-cons (λ x. f x + g x) x xs in
      let one = sum_by-cons f x xs in
      let other = sum_by-cons g x xs in
      let rest = sums_add f g xs in
      omega (arith, both, one, other, rest)

  sum_mapped : {Y : Type 0} (g : Y → ℕ) (f : X → Y) (xs : List X) → sum_by g (map f xs) ≡ sum_by (λ x. g (f x)) xs
  sum_mapped g f [] = refl
  sum_mapped g f (x ∷ xs) = sum_by-cons g (f x) (map f xs) ∙ ap (λ n. g (f x) + n) (sum_mapped g f xs) ∙ sym (sum_by-cons (λ x. g (f x)) x xs)

  -- a list that rises, of elements of another one, sums to no more
  part_sum : (R : X → X → Ordering) → IsTotalOrder R → (f g : X → ℕ) (xs ys : List X) → IsStrictlySortedBy R xs → ((x : X) → Contains xs x → Contains ys x × (f x ≤ g x)) → sum_by f xs ≤ sum_by g ys
  part_sum R total f g [] ys up each = omega arith
  part_sum R total f g (x ∷ xs) ys up each =
      let (at, less) = each x (contains_here x xs) in
      let k = at.0 in
      let split : ys ≡ take k ys ++ x ∷ drop (suc k) ys = split_at ys k x at.1 ∙ ap (λ y. take k ys ++ y ∷ drop (suc k) ys) at.2 in
      let others = take k ys ++ drop (suc k) ys in
      let rest : sum_by f xs ≤ sum_by g others =
      part_sum R total f g xs others (sorted_tail R x xs up)
      (λ z m. (
      let (there, low) = each z (contains_later x xs z m) in (
        elim (Contains-append_cases (take k ys) (x ∷ drop (suc k) ys) z (subst (λ l. Contains l z) split there)) [
          | inl early ↦ Contains-append_left (take k ys) (drop (suc k) ys) z early
          | inr late ↦ elim (contains_cases x (drop (suc k) ys) z late) [
            | inl e ↦ absurd (not_itself R total x (subst (λ w. R x w ≡ Less) (sym e) (after R total x xs z up m)))
            | inr later ↦ Contains-append_right (take k ys) (drop (suc k) ys) z later
          ]
        ],
        low,
      )
      )) in
      let whole = ap (sum_by g) split ∙ sum_by-append g (take k ys) (x ∷ drop (suc k) ys) in
      let behind = sum_by-cons g x (drop (suc k) ys) in
      let without = sum_by-append g (take k ys) (drop (suc k) ys) in
      let front = sum_by-cons f x xs in
      omega (arith, rest, whole, behind, without, front, less)

-- ---- what a chain adds to a position

-- the choices of the formula that it adds there
abbrev adds_to : ℕ → Chain → ℕ
adds_to p c = choice_count (formula_at c (p - c.start))

abbrev share : ℕ → Chain → ℕ
share p c = if covers p c then adds_to p c else 0

share_in : (p : ℕ) (c : Chain) → Covers c p → share p c ≡ adds_to p c
share_in p c h = ap (λ b. if b then adds_to p c else 0) (is-covers p c h)

share_out : (p : ℕ) (c : Chain) → (Covers c p → ⊥) → share p c ≡ 0
share_out p c h =
    elim (cases_Bool (covers p c)) [
      | inl e ↦ absurd (h (covers-is p c e))
      | inr e ↦ ap (λ b. if b then adds_to p c else 0) e
    ]

one_time : (n : ℕ) → 1 * (n * 1) ≡ n
one_time n = omega arith

middle_choices : (c : Chain) (i : ℕ) → suc (suc i) < c.count → choice_count (formula_at c (suc i)) ≡ 1
middle_choices c i less =
    let ends : nat_eq (suc (suc i)) c.count ≡ false = grind (arith, nat_tests, less) in
    ap (λ b. choice_count (later_formula c (suc i) b)) ends

last_choices : (c : Chain) (i : ℕ) → suc (suc i) ≡ c.count → choice_count (formula_at c (suc i)) ≡ choice_count c.formula
last_choices c i is =
    let ends : nat_eq (suc (suc i)) c.count ≡ true = grind (arith, nat_tests, is) in
    ap (λ b. choice_count (later_formula c (suc i) b)) ends ∙ one_time (choice_count c.formula)

-- to its first position, to one between and to its last
first_share : (p : ℕ) (c : Chain) → 2 ≤ c.count → p ≡ c.start → share p c ≡ 1
first_share p c several is =
    let none : p - c.start ≡ 0 = omega (arith, is) in
    share_in p c (omega (arith, is), omega (arith, is, several)) ∙ ap (λ i. choice_count (formula_at c i)) none

middle_share : (p : ℕ) (c : Chain) → c.start < p → p + 1 < c.start + c.count → share p c ≡ 1
middle_share p c low high =
    let later : p - c.start ≡ suc (p - c.start - 1) = omega (arith, low) in
    share_in p c (omega (arith, low), omega (arith, high)) ∙ ap (λ i. choice_count (formula_at c i)) later ∙ middle_choices c (p - c.start - 1) (omega (arith, low, high))

last_share : (p : ℕ) (c : Chain) → c.start < p → p + 1 ≡ c.start + c.count → share p c ≡ choice_count c.formula
last_share p c low is =
    let later : p - c.start ≡ suc (p - c.start - 1) = omega (arith, low) in
    share_in p c (omega (arith, low), omega (arith, is)) ∙ ap (λ i. choice_count (formula_at c i)) later ∙ last_choices c (p - c.start - 1) (omega (arith, low, is))

-- to so many positions from one on
abbrev shares : ℕ → ℕ → Chain → ℕ
shares from zero c = 0
shares from (suc n) c = share from c + shares (suc from) n c

past : (n from : ℕ) (c : Chain) → c.start + c.count ≤ from → shares from n c ≡ 0
past zero from c over = refl
past (suc n) from c over =
    let here = share_out from c (λ h. omega (arith, h, over)) in
    let rest = past n (suc from) c (omega (arith, over)) in
    omega (arith, here, rest)

on_its_way : (n from : ℕ) (c : Chain) → c.start < from → from < c.start + c.count → shares from n c + from < c.start + c.count + choice_count c.formula
on_its_way zero from c low high = omega (arith, high)
on_its_way (suc n) from c low high =
    elim (cases_lt (from + 1) (c.start + c.count)) [
      | inl less ↦
          let here = middle_share from c low less in
          let rest = on_its_way n (suc from) c (omega (arith, low)) (omega (arith, less)) in
          omega (arith, here, rest)
      | inr most ↦
          let here = last_share from c low (omega (arith, high, most)) in
          let rest = past n (suc from) c (omega (arith, most)) in
          omega (arith, here, rest, high, most)
    ]

all_shares : (n from : ℕ) (c : Chain) → 2 ≤ c.count → from ≤ c.start → shares from n c ≤ chain_choices c
all_shares zero from c several low = omega arith
all_shares (suc n) from c several low =
    elim (cases_lt from c.start) [
      | inl less ↦
          let here = share_out from c (λ h. omega (arith, h, less)) in
          let rest = all_shares n (suc from) c several (omega (arith, less)) in
          omega (arith, here, rest)
      | inr most ↦
          let here = first_share from c several (omega (arith, low, most)) in
          let rest = on_its_way n (suc from) c (omega (arith, most)) (omega (arith, low, several)) in
          omega (arith, here, rest, low, most, several)
    ]

-- ---- what all of them add

-- the choices of an added formula
abbrev choices_of : List ℕ × Tree → ℕ
choices_of a = choice_count a.1

abbrev formula_of : ℕ → Chain → List ℕ × Tree
formula_of p c = (c.word, formula_at c (p - c.start))

module _ (some : List Chain) where
  row_sum : (p : ℕ) (row : List (List ℕ × Tree)) → AreAdded some p row → sum_by choices_of row ≤ sum_by (share p) some
  row_sum p row adds =
      let is = ap (sum_by choices_of) adds.are ∙ sum_mapped choices_of (formula_of p) adds.here in
      let few =
      part_sum word_cmp chains_total (adds_to p) (share p) adds.here some adds.rise
      (λ c m. (
      let both = (adds.exactly c).0 m in
      let same = share_in p c both.1 in
      (both.0, omega (arith, same))
      )) in
      omega (arith, is, few)

  all_rows : (rows : List (List (List ℕ × Tree))) (from : ℕ) → ((i : ℕ) (row : List (List ℕ × Tree)) → slice_get rows i ≡ Some row → AreAdded some (from + i) row)
      → sum_by (sum_by choices_of) rows ≤ sum_by (λ c. shares from (length rows) c) some
  all_rows [] from each = omega arith
  all_rows (row ∷ rows) from each =
      let here = row_sum from row (subst (λ n. AreAdded some n row) (let e : from + 0 ≡ from = omega arith in e) (each 0 row refl)) in
      let later = all_rows rows (suc from) (λ i other at. subst (λ n. AreAdded some n other) (let e : from + suc i ≡ suc from + i = omega arith in e) (each (suc i) other at)) in
      let sum = sum_by-cons (sum_by choices_of) row rows in
      let both = sums_add (share from) (λ c. shares (suc from) (length rows) c) some in
      omega (arith, here, later, sum, both)

-- the sum over chains
chains_sum : (f : Chain → ℕ) (cs : List Chain) → ((c : Chain) → Contains cs c → f c ≤ chain_choices c) → sum_by f cs ≤ choices_of_all cs
chains_sum f [] each = omega arith
chains_sum f (c ∷ cs) each =
    let here = each c (contains_here c cs) in
    let rest = chains_sum f cs (λ d m. each d (contains_later c cs d m)) in
    let sum = sum_by-cons f c cs in
    omega (arith, here, rest, sum)

taken_few : (cs : List Chain) (n : ℕ) (ts : List Chain) → AreTaken n cs ts → n ≤ LISTED_CHOICES → n + choices_of_all ts ≤ LISTED_CHOICES
taken_few [] n [] (no_chain _) few = omega (arith, few)
taken_few [] n (t ∷ ts) h few = elim h [ ]
taken_few (c ∷ cs) n (c' ∷ ts) (taken _ _ _ _ usable less rest) few =
    let all = taken_few cs _ ts rest less in
    omega (arith, all)
taken_few (c ∷ cs) n ts (left_out _ _ _ _ never rest) few = taken_few cs n ts rest few

pub added_are_few : AddedAreFew
added_are_few dict tokens added idioms =
    let rows = all_rows idioms.taken added 0 (λ p row at. subst (λ n. AreAdded idioms.taken n row) (let e : p ≡ 0 + p = omega arith in e) (idioms.each p row at)) in
    let sum = chains_sum (λ c. shares 0 (length added) c) idioms.taken (λ c m. all_shares (length added) 0 c (inside dict tokens added idioms c m).0 (omega arith)) in
    let few = taken_few idioms.chains 0 idioms.taken idioms.are_taken (omega arith) in
    omega (arith, rows, sum, few)
