-- How the seats of a new memo are dealt.
use Rattle.std.proofs.Common.{◌≡◌, ℕ, zero, suc, ◌+◌, ◌-◌, ◌<◌, ◌≤◌, false, ◌||◌, List, [], ◌∷◌, ◌++◌, map, take, drop, refl, ap, sym, ◌∙◌, subst, arith, ne_eqb}
use Rattle.std.specs.List.{range_with_len}
use Rattle.std.proofs.lemmas.List.{map-append}
use Rattle.std.proofs.lemmas.List.FromFn.{map-range_with_len_more}
use Rattle.atomic_table.specs.Table.{Me, Splits}
use Rattle.atomic_table.specs.Seated.{TableId}
use Rattle.lg_memo.specs.declared.view.About.{About}
use Rattle.lg_memo.specs.declared.view.View.{View}
use Rattle.lg_memo.specs.Views.{has_number, without_first, first_alone}
use Rattle.lg_memo.specs.Rule.{IsKept}
use Rattle.lg_memo.specs.Steps.{at_start}
use Rattle.lg_memo.proofs.Sharing.{split_allows}

not_later : (x from n : ℕ) → x < from → has_number (range_with_len from n) x ≡ false
not_later x from zero less = refl
not_later x from (suc n) less = ap (λ t. t || has_number (range_with_len (from + 1) n) x) (ne_eqb x from (omega arith)) ∙ not_later x (from + 1) n (omega arith)

abbrev Start : Type 0 → Type 0 → Type 0
Start N S = TableId × Me S (View N)

module _ {N S : Type 0} (table : TableId) (about : About N) where
  pub split_start : (Good : About N → ℕ → ℕ → S → Type 0) (id first : ℕ) (its_table : TableId) (me : Me S (View N)) → (its_table, me) ≡ at_start table about me.0.numbers
      → me.0.numbers ≡ range_with_len first (about.seats - first) → first + 1 < about.seats → Splits (IsKept Good about) id me.0 (without_first me.0) (first_alone me.0)
  split_start Good id first its_table me start numbers less =
      let more : ℕ = about.seats - (first + 2) in
      let e : about.seats - first ≡ suc (suc more) = omega arith in
      split_allows Good about id me.0 first (first + 1) (range_with_len (first + 1 + 1) more) (ap (λ (z : Start N S). z.1.0.about) start) (ap (λ (z : Start N S). z.1.0.has) start)
      (numbers ∙ ap (λ (m : ℕ). range_with_len first m) e) (omega arith) less (not_later first (first + 1) (suc more) (omega arith))

  pub same_start : (its_table : TableId) (me : Me S (View N)) → (its_table, me) ≡ at_start table about me.0.numbers → its_table ≡ table
  same_start its_table me start = ap (λ (z : Start N S). z.0) start

  -- what is left of a seat, and what is given
  pub left_start : (its_table its_table' : TableId) (me after : Me S (View N)) → (its_table, me) ≡ at_start table about me.0.numbers → its_table' ≡ its_table → after ≡ (without_first me.0, me.1)
      → (its_table', after) ≡ at_start table about (drop 1 me.0.numbers)
  left_start its_table its_table' me after start there is = (λ i. (there i, is i)) ∙ ap (λ (z : Start N S). (z.0, (without_first z.1.0, z.1.1))) start

  pub given_start : (its_table its_table' : TableId) (me after : Me S (View N)) → (its_table, me) ≡ at_start table about me.0.numbers → its_table' ≡ its_table → after ≡ (first_alone me.0, [])
      → (its_table', after) ≡ at_start table about (take 1 me.0.numbers)
  given_start its_table its_table' me after start there is = (λ i. (there i, is i)) ∙ ap (λ (z : Start N S). (z.0, (first_alone z.1.0, []))) start

  -- a seat with the numbers from k on, whose first number goes to a new seat
  module _ (its_table : TableId) (me : Me S (View N)) (k seats : ℕ) (less : k < seats) (is : (its_table, me) ≡ at_start table about (range_with_len k (seats - k))) where
    pub numbers_are : me.0.numbers ≡ range_with_len k (seats - k)
    numbers_are = ap (λ (z : Start N S). z.1.0.numbers) is

    pub starts : (its_table, me) ≡ at_start table about me.0.numbers
    starts = is ∙ ap (λ (l : List ℕ). at_start table about l) (sym numbers_are)

    apart : me.0.numbers ≡ k ∷ range_with_len (k + 1) (seats - (k + 1))
    apart = let e : seats - k ≡ suc (seats - (k + 1)) = omega arith in numbers_are ∙ ap (λ (m : ℕ). range_with_len k m) e

    pub left_is : (left : Start N S) → left ≡ at_start table about (drop 1 me.0.numbers) → left ≡ at_start table about (range_with_len (k + 1) (seats - (k + 1)))
    left_is left e = e ∙ ap (λ (l : List ℕ). at_start table about (drop 1 l)) apart

    pub given_is : (given : Start N S) → given ≡ at_start table about (take 1 me.0.numbers) → given ≡ at_start table about (k ∷ [])
    given_is given e = e ∙ ap (λ (l : List ℕ). at_start table about (take 1 l)) apart

  -- one seat more for its number
  pub seats_are : {A : Type 0} (f : A → Start N S) (k : ℕ) (before after : List A) (given : A) → map f before ≡ map (λ n. at_start table about (n ∷ [])) (range_with_len 0 k)
      → after ≡ before ++ given ∷ [] → f given ≡ at_start table about (k ∷ []) → map f after ≡ map (λ n. at_start table about (n ∷ [])) (range_with_len 0 (k + 1))
  seats_are f k before after given were are is =
      ap (λ l. map f l) are ∙ map-append f before (given ∷ []) ∙ (λ i. were i ++ is i ∷ []) ∙ sym (map-range_with_len_more (λ (n : ℕ). at_start table about (n ∷ [])) 0 k k (omega arith))

  -- one step of the loop, whose counter is one more than how many were dealt
  pub dealt_more : {A : Type 0} (f : A → Start N S) (its_table : TableId) (me : Me S (View N)) (left_table : TableId) (left : Me S (View N)) (counter seats : ℕ) → 1 ≤ counter → counter < seats
      → (its_table, me) ≡ at_start table about (range_with_len (counter - 1) (seats - (counter - 1)))
      → (before after : List A) (given : A) → map f before ≡ map (λ n. at_start table about (n ∷ [])) (range_with_len 0 (counter - 1)) → after ≡ before ++ given ∷ []
      → (left_table, left) ≡ at_start table about (drop 1 me.0.numbers) → f given ≡ at_start table about (take 1 me.0.numbers)
      → ((left_table, left) ≡ at_start table about (range_with_len (counter + 1 - 1) (seats - (counter + 1 - 1)))) × (map f after ≡ map (λ n. at_start table about (n ∷ [])) (range_with_len 0 (counter + 1 - 1)))
  dealt_more f its_table me left_table left counter seats some less is before after given are were left_are given_are =
      let k : ℕ = counter - 1 in
      let within : k < seats = omega arith in
      let next : k + 1 ≡ counter + 1 - 1 = omega arith in (
        subst (λ (m : ℕ). (left_table, left) ≡ at_start table about (range_with_len m (seats - m))) next (left_is its_table me k seats within is (left_table, left) left_are),
        subst (λ (m : ℕ). map f after ≡ map (λ n. at_start table about (n ∷ [])) (range_with_len 0 m)) next (seats_are f k before after given are were (given_is its_table me k seats within is (f given) given_are)),
      )

  -- the last seat keeps the last number
  pub dealt_last : {A : Type 0} (f : A → Start N S) (its_table : TableId) (me : Me S (View N)) (counter seats : ℕ) → 1 ≤ counter → counter ≡ seats
      → (its_table, me) ≡ at_start table about (range_with_len (counter - 1) (seats - (counter - 1)))
      → (before after : List A) (last : A) → f last ≡ (its_table, me) → map f before ≡ map (λ n. at_start table about (n ∷ [])) (range_with_len 0 (counter - 1)) → after ≡ before ++ last ∷ []
      → map f after ≡ map (λ n. at_start table about (n ∷ [])) (range_with_len 0 seats)
  dealt_last f its_table me counter seats some same is before after last its are were =
      let k : ℕ = counter - 1 in
      let one : seats - k ≡ 1 = omega arith in
      let next : k + 1 ≡ seats = omega arith in
      subst (λ (m : ℕ). map f after ≡ map (λ n. at_start table about (n ∷ [])) (range_with_len 0 m)) next
      (seats_are f k before after last are were (its ∙ is ∙ ap (λ (m : ℕ). at_start table about (range_with_len k m)) one))
