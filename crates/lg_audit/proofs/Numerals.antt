-- Digits, and the number that they print.
use Rattle.std.proofs.Common.{◌≡◌, ℕ, zero, suc, ◌+◌, ◌-◌, ◌*◌, ◌<◌, ◌≤◌, ◌^◌, List, [], ◌∷◌, length, get_or, decimal, Option, Some, None, IfSome, MatchOption, drop, sym, ap, ◌∙◌, subst, arith}
use Rattle.std.specs.Char.{digit_value}
use Rattle.std.specs.Str.Parse.{AllDigits, digits_value, digits_value_after}
use Rattle.std.proofs.lemmas.List.{at_drop_more}
use Rattle.std.proofs.lemmas.Str.{digit_value_digit}
use Rattle.std.proofs.lemmas.Str.Parse.{digit_from_value, IsNumeralModel, numerals_by_value, tells_digits}
use Rattle.std.proofs.lemmas.Fmt.{decimal_is_IsNumeral, first_decimal, decimal_digit, decimal-digits_value, decimal_injective}

pub own : IsNumeralModel (AllDigits 10) (digits_value 10)
own = numerals_by_value (AllDigits 10) tells_digits

-- more digits make no smaller number
pub after_le : (n : ℕ) (ds : List ℕ) → n ≤ digits_value_after 10 n ds
after_le n [] = omega arith
after_le n (c ∷ cs) = omega (arith, after_le (n * 10 + digit_value c) cs)

-- a digit with which a number passes 64 bits
pub overflow : (text : List ℕ) (i n : ℕ) → i < length text → digits_value_after 10 n (drop i text) ≡ digits_value 10 text → AllDigits 10 (drop i text)
    → 2 ^ 64 ≤ n * 10 + (get_or text i 0 - 48) → 2 ^ 64 ≤ digits_value 10 text
overflow text i n within value all large =
    let c : ℕ = get_or text i 0 in
    let step : drop i text ≡ c ∷ drop (i + 1) text = at_drop_more (λ (xs : List ℕ). xs) text i 0 within in
    let parts : AllDigits 10 (c ∷ drop (i + 1) text) = subst (AllDigits 10) step all in
    let digit : digit_value c + 48 ≡ c = digit_value_digit c (digit_from_value c parts.0) in
    let is : digits_value 10 text ≡ digits_value_after 10 (n * 10 + digit_value c) (drop (i + 1) text) = sym value ∙ ap (digits_value_after 10 n) step in
    omega (arith, after_le (n * 10 + digit_value c) (drop (i + 1) text))

-- there is a byte, and no zero with more bytes behind it
abbrev pub BeginsWell : List ℕ → Type 0
BeginsWell text = (0 < length text) × (get_or text 0 0 ≡ 48 → length text ≡ 1)

decimal_begins_well : (n : ℕ) → n < 2 ^ 64 → BeginsWell (decimal n)
decimal_begins_well n small = ((decimal_is_IsNumeral n small).0.0, λ is. only n small is)
  where
    only : (n : ℕ) → n < 2 ^ 64 → get_or (decimal n) 0 0 ≡ 48 → length (decimal n) ≡ 1
    only zero small is = ap length (decimal_digit 0 (omega arith))
    only (suc n) small is = absurd (omega (arith, first_decimal (suc n)))

-- what a text says that prints a number
pub record Prints (text : List ℕ) (n : ℕ) : Type 0 where
  pub digits : AllDigits 10 text
  pub value : digits_value 10 text ≡ n
  pub begins_well : BeginsWell text

pub prints : (text : List ℕ) (n : ℕ) → n < 2 ^ 64 → text ≡ decimal n → Prints text n
prints text n small is =
    let told = decimal_is_IsNumeral n small in
    subst (λ (t : List ℕ). Prints t n) (sym is) (record { digits = told.0.1; value = told.1; begins_well = decimal_begins_well n small })

-- and digits that begin well print their value
pub printed : (text : List ℕ) (n : ℕ) → AllDigits 10 text → BeginsWell text → n ≡ digits_value 10 text → n < 2 ^ 64 → text ≡ decimal n
printed text n all well is small =
    subst (λ (m : ℕ). text ≡ decimal m) (sym is) (sym (decimal-digits_value own text all well.0 well.1 (subst (λ (m : ℕ). m < 2 ^ 64) is small)))

-- a number is read from digits that begin well
pub read_number : (text : List ℕ) (r : Option ℕ) → BeginsWell text → IfSome r (λ n. n < 2 ^ 64)
    → MatchOption r (AllDigits 10 text → 2 ^ 64 ≤ digits_value 10 text) (λ n. AllDigits 10 text × (n ≡ digits_value 10 text))
    → MatchOption r ((n : ℕ) → n < 2 ^ 64 → text ≡ decimal n → ⊥) (λ n. text ≡ decimal n)
read_number text None well small none = λ n fits is. let told = prints text n fits is in omega (arith, none told.digits, told.value)
read_number text (Some n) well small some = printed text n some.0 well some.1 small

-- the text of a larger number is none of a smaller one
pub no_other : (text : List ℕ) (m n : ℕ) → text ≡ decimal m → text ≡ decimal n → m < 2 ^ 64 → n < m → ⊥
no_other text m n is is' small less = let same : m ≡ n = decimal_injective m n small (omega arith) (sym is ∙ is') in omega arith
