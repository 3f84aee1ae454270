-- The seats that were dealt are free, and stand for all numbers.
use Rattle.std.proofs.Common.{◌≡◌, ℕ, zero, suc, ◌+◌, ◌<◌, ◌≤◌, true, ◌||◌, List, [], ◌∷◌, ◌++◌, map, length, get_or, drop, refl, ap, sym, ◌∙◌, subst, inl, inr, arith, ne_eqb}
use Rattle.std.specs.List.{All, flat_map, range_with_len}
use Rattle.std.proofs.lemmas.Bool.{cases_lt, eq-eqb}
use Rattle.std.proofs.lemmas.List.Elements.{All-nil, All-cons}
use Rattle.atomic_table.specs.Table.{Me}
use Rattle.atomic_table.specs.Seated.{TableId}
use Rattle.lg_memo.specs.declared.view.About.{About}
use Rattle.lg_memo.specs.declared.view.View.{View}
use Rattle.lg_memo.specs.Views.{has_number}
use Rattle.lg_memo.specs.Steps.{at_start, IsFree}

pub has_each : (x from n : ℕ) → from ≤ x → x < from + n → has_number (range_with_len from n) x ≡ true
has_each x from zero low high = absurd (omega arith)
has_each x from (suc n) low high =
    elim (cases_lt from x) [
      | inl less ↦ ap (λ t. t || has_number (range_with_len (from + 1) n) x) (ne_eqb x from (omega arith)) ∙ has_each x (from + 1) n (omega arith) (omega arith)
      | inr ge ↦ (let e : x ≡ from = omega arith in ap (λ t. t || has_number (range_with_len (from + 1) n) x) (eq-eqb x from e))
    ]

module _ {N S A : Type 0} (table : TableId) (about : About N) (f : A → TableId × Me S (View N)) where
  abbrev AreDealt : List A → List ℕ → Type 0
  AreDealt seats numbers = map f seats ≡ map (λ n. at_start table about (n ∷ [])) numbers

  first_is : (s : A) (seats : List A) (n : ℕ) (numbers : List ℕ) → AreDealt (s ∷ seats) (n ∷ numbers) → f s ≡ at_start table about (n ∷ [])
  first_is s seats n numbers e = ap (λ l. get_or l 0 (f s)) e

  rest_are : (s : A) (seats : List A) (n : ℕ) (numbers : List ℕ) → AreDealt (s ∷ seats) (n ∷ numbers) → AreDealt seats numbers
  rest_are s seats n numbers e = ap (λ l. drop 1 l) e

  no_seat : (n : ℕ) (numbers : List ℕ) → AreDealt [] (n ∷ numbers) → ⊥
  no_seat n numbers e = let sizes = ap length e in omega arith

  no_number : (s : A) (seats : List A) → AreDealt (s ∷ seats) [] → ⊥
  no_number s seats e = let sizes = ap length e in omega arith

  pub dealt_free : (seats : List A) (numbers : List ℕ) → AreDealt seats numbers → All (λ s. IsFree table about (f s).0 (f s).1) seats
  dealt_free [] numbers e = All-nil (λ s. IsFree table about (f s).0 (f s).1)
  dealt_free (s ∷ seats) [] e = absurd (no_number s seats e)
  dealt_free (s ∷ seats) (n ∷ numbers) e =
      All-cons (λ s. IsFree table about (f s).0 (f s).1) s seats
      (subst (λ z. IsFree table about z.0 z.1) (sym (first_is s seats n numbers e)) (record { same_table = refl; same_memo = refl; no_shard = refl; no_slot = refl }))
      (dealt_free seats numbers (rest_are s seats n numbers e))

  numbers_of : (seats : List A) (numbers : List ℕ) → AreDealt seats numbers → flat_map (λ s. (f s).1.0.numbers) seats ≡ numbers
  numbers_of [] [] e = refl
  numbers_of [] (n ∷ numbers) e = absurd (no_seat n numbers e)
  numbers_of (s ∷ seats) [] e = absurd (no_number s seats e)
  numbers_of (s ∷ seats) (n ∷ numbers) e = let first = first_is s seats n numbers e in let rest = numbers_of seats numbers (rest_are s seats n numbers e) in λ i. (first i).1.0.numbers ++ rest i

  pub dealt_all : (seats : List A) (count : ℕ) → AreDealt seats (range_with_len 0 count) → (n : ℕ) → n < count → has_number (flat_map (λ s. (f s).1.0.numbers) seats) n ≡ true
  dealt_all seats count e n less = ap (λ l. has_number l n) (numbers_of seats (range_with_len 0 count) e) ∙ has_each n 0 count (omega arith) (omega arith)
