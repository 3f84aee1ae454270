-- Costs: how large they are, how they are printed, and how they are written in a dictionary.
use Rattle.std.specs.Prelude.{◌≡◌, ◌+◌, ◌-◌, ◌*◌, ◌/◌, ◌%◌, ◌^◌, ◌≤◌, ◌==◌, ◌&&◌, ℕ, zero, suc, nat_lt, nat_le, Bool, if◌then◌else◌, take, drop, position, ℤ, pos, negsuc, neg_ℤ, unsigned_abs, ◌≤ℤ◌, List, [], ◌∷◌, ◌++◌, length, decimal}
use Rattle.std.specs.declared.option.Option.{Option}
use Rattle.std.specs.declared.option.Option.TheVariants.{None, Some}
use Rattle.std.specs.Char.{digit_value}
use Rattle.std.specs.List.{list_all}
use Rattle.std.specs.Option.{option_map}
use Rattle.std.specs.Str.Parse.{IsNumeral, digits_value}

-- at most 10 ^ 16 thousandths from zero
abbrev pub IsWithinCosts : ℤ → Type 0
IsWithinCosts z = (neg_ℤ (pos (10 ^ 16)) ≤ℤ z) × (z ≤ℤ pos (10 ^ 16))

-- three digits, with leading zeros (48 is the digit 0)
abbrev pub three_digits : ℕ → List ℕ
three_digits n = (48 + n / 100) ∷ (48 + n / 10 % 10) ∷ (48 + n % 10) ∷ []

-- so many thousandths: the whole part, a point (46) and three digits
abbrev pub thousandths_text : ℕ → List ℕ
thousandths_text n = decimal (n / 1000) ++ 46 ∷ three_digits (n % 1000)

-- a minus sign (45) where the cost is below zero
abbrev pub sign_of : ℤ → List ℕ
sign_of (pos _) = []
sign_of (negsuc _) = 45 ∷ []

-- a printed cost
abbrev pub cost_text : ℤ → List ℕ
cost_text cost = sign_of cost ++ thousandths_text (unsigned_abs cost)

-- one digit or more, and at most so many
abbrev pub AreDigits : ℕ → List ℕ → Type 0
AreDigits most digits = IsNumeral 10 digits × (length digits ≤ most)

-- the thousandths that up to three digits after a point stand for
abbrev pub part_value : List ℕ → ℕ
part_value part = digits_value 10 part * 10 ^ (3 - length part)

-- the three forms of a cost number and the thousandths that they stand for: digits; digits, a point (46) and digits;
-- a point and digits
pub data CostForm (bytes : List ℕ) (value : ℕ) : Type 0 where
  Whole : AreDigits 5 bytes → value ≡ 1000 * digits_value 10 bytes → CostForm bytes value
  WholeAndPart : (whole part : List ℕ) → bytes ≡ whole ++ 46 ∷ part → AreDigits 5 whole → AreDigits 3 part → value ≡ 1000 * digits_value 10 whole + part_value part → CostForm bytes value
  Part : (part : List ℕ) → bytes ≡ 46 ∷ part → AreDigits 3 part → value ≡ part_value part → CostForm bytes value

-- the answer to these bytes: their thousandths where they have one of the forms, and else None
abbrev pub ReadsForm : List ℕ → Option ℕ → Type 0
ReadsForm bytes (Some value) = CostForm bytes value
ReadsForm bytes None = (value : ℕ) → ¬ CostForm bytes value

-- the bytes are a cost number without a sign, at most 10000.000, and these are its thousandths
abbrev pub IsSize : List ℕ → ℕ → Type 0
IsSize bytes size = CostForm bytes size × (size ≤ 10 ^ 7)

-- the answer to these bytes: their thousandths where they are a cost number without a sign, and else None
abbrev pub ReadsSize : List ℕ → Option ℕ → Type 0
ReadsSize bytes (Some size) = IsSize bytes size
ReadsSize bytes None = (size : ℕ) → ¬ IsSize bytes size

-- the bytes are a cost number and this is its cost, which a minus sign (45) negates
pub data IsCostNumber (bytes : List ℕ) (cost : ℤ) : Type 0 where
  Plain : (size : ℕ) → IsSize bytes size → cost ≡ pos size → IsCostNumber bytes cost
  Negated : (unsigned : List ℕ) (size : ℕ) → bytes ≡ 45 ∷ unsigned → IsSize unsigned size → cost ≡ neg_ℤ (pos size) → IsCostNumber bytes cost

-- the answer to these bytes: the cost where they are a cost number, and else None
abbrev pub ReadsCost : List ℕ → Option ℤ → Type 0
ReadsCost bytes (Some cost) = IsCostNumber bytes cost
ReadsCost bytes None = (cost : ℤ) → ¬ IsCostNumber bytes cost

-- one digit or more, and at most so many, as a test
abbrev pub are_digits : ℕ → List ℕ → Bool
are_digits most digits = nat_lt 0 (length digits) && nat_le (length digits) most && list_all (λ digit. nat_lt (digit_value digit) 10) digits

-- the thousandths of a number without a sign whose first point stands there
abbrev pub form_value : List ℕ → Option ℕ → Option ℕ
form_value bytes None = if are_digits 5 bytes then Some (1000 * digits_value 10 bytes) else None
form_value bytes (Some zero) = if are_digits 3 (drop 1 bytes) then Some (part_value (drop 1 bytes)) else None
form_value bytes (Some (suc k)) =
    if are_digits 5 (take (suc k) bytes) && are_digits 3 (drop (suc k + 1) bytes)
    then Some (1000 * digits_value 10 (take (suc k) bytes) + part_value (drop (suc k + 1) bytes)) else None

-- at most 10000.000
abbrev pub size_within : Option ℕ → Option ℕ
size_within None = None
size_within (Some size) = if nat_le size (10 ^ 7) then Some size else None

abbrev pub read_size : List ℕ → Option ℕ
read_size bytes = size_within (form_value bytes (position (λ byte. byte == 46) bytes))

-- the cost that the bytes write, as a function
abbrev pub read_cost : List ℕ → Option ℤ
read_cost [] = None
read_cost (byte ∷ bytes) =
    if byte == 45 then option_map (λ size. neg_ℤ (pos size)) (read_size bytes) else option_map pos (read_size (byte ∷ bytes))

-- reading the bytes has one answer alone
abbrev pub HasOneReading : Type 0
HasOneReading = (bytes : List ℕ) (one other : Option ℤ) → ReadsCost bytes one → ReadsCost bytes other → one ≡ other

-- reading a printed cost that is at most 10000.000 from zero gives it back
abbrev pub IsReadBack : Type 0
IsReadBack = (cost : ℤ) → unsigned_abs cost ≤ 10 ^ 7 → (answer : Option ℤ) → ReadsCost (cost_text cost) answer → answer ≡ Some cost

-- the same bytes are a cost number for one cost alone
abbrev pub HasOneCost : Type 0
HasOneCost = (bytes : List ℕ) (cost other : ℤ) → IsCostNumber bytes cost → IsCostNumber bytes other → cost ≡ other
