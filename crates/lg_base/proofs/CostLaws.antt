-- Printed costs are read back, and no bytes are two cost numbers.
use Rattle.std.proofs.Common.{◌≡◌, ℕ, ◌+◌, ◌/◌, ◌%◌, ◌^◌, ◌<◌, ◌≤◌, ◌≢◌, suc, ℤ, pos, negsuc, neg_ℤ, unsigned_abs, List, [], ◌∷◌, ◌⊎◌, inl, inr, ⊎_elim, None, Some, decimal, refl, ap, sym, ◌∙◌, arith}
use Rattle.std.specs.Char.{digit_value}
use Rattle.std.proofs.lemmas.Bool.{cases_eq}
use Rattle.std.proofs.lemmas.Str.{digit_value_digit}
use Rattle.std.proofs.lemmas.Fmt.{decimal_is_IsNumeral, length-decimal-le}
use Rattle.lg_base.specs.Costs.{AreDigits, three_digits, thousandths_text, part_value, CostForm, cost_text, IsCostNumber, IsReadBack, HasOneCost}
use Rattle.lg_base.specs.Costs.CostForm.{WholeAndPart}
use Rattle.lg_base.specs.Costs.IsCostNumber.{Plain, Negated}
use Rattle.lg_base.proofs.CostReading.{form_once, same_first, negated, plain}

digit_value-printed : (d : ℕ) → d < 10 → digit_value (48 + d) ≡ d
digit_value-printed d small = omega (arith, digit_value_digit (48 + d) (omega arith, omega arith))

-- three printed digits are digits, of the number that was printed
three_digits-AreDigits : (n : ℕ) → n < 1000 → AreDigits 3 (three_digits n)
three_digits-AreDigits n small =
    let a = digit_value-printed (n / 100) (omega arith) in
    let b = digit_value-printed (n / 10 % 10) (omega arith) in
    let c = digit_value-printed (n % 10) (omega arith) in
    ((omega arith, (omega arith, (omega arith, (omega arith, tt)))), omega arith)

part_value-three_digits : (n : ℕ) → n < 1000 → part_value (three_digits n) ≡ n
part_value-three_digits n small =
    let a = digit_value-printed (n / 100) (omega arith) in
    let b = digit_value-printed (n / 10 % 10) (omega arith) in
    let c = digit_value-printed (n % 10) (omega arith) in
    omega arith

printed_form : (n : ℕ) → n ≤ 10 ^ 7 → CostForm (thousandths_text n) n
printed_form n small =
    let whole = decimal_is_IsNumeral (n / 1000) (omega arith) in
    WholeAndPart (decimal (n / 1000)) (three_digits (n % 1000)) refl
    (whole.0, length-decimal-le 5 (n / 1000) (omega arith) (omega arith) (omega arith))
    (three_digits-AreDigits (n % 1000) (omega arith))
    (omega (arith, whole.1, part_value-three_digits (n % 1000) (omega arith)))

-- the bytes begin with a minus sign or they do not
signed_or_not : (bytes : List ℕ) → ((unsigned : List ℕ) × (bytes ≡ 45 ∷ unsigned)) ⊎ ((unsigned : List ℕ) → bytes ≢ 45 ∷ unsigned)
signed_or_not [] = inr (λ unsigned is. cc)
signed_or_not (b ∷ bs) = ⊎_elim
    (λ first. inl (bs, ap (λ c. c ∷ bs) first))
    (λ other. inr (λ unsigned same. other (same_first b 45 bs unsigned same)))
    (cases_eq b 45)

pub has_one_cost : HasOneCost
has_one_cost bytes cost other one more = ⊎_elim
    (λ signed.
    let a = negated bytes signed.0 signed.1 cost one in
    let b = negated bytes signed.0 signed.1 other more in
    a.2 ∙ ap (λ size. neg_ℤ (pos size)) (form_once signed.0 a.0 b.0 a.1.0 b.1.0) ∙ sym b.2)
    (λ unsigned.
    let a = plain bytes unsigned cost one in
    let b = plain bytes unsigned other more in
    a.2 ∙ ap pos (form_once bytes a.0 b.0 a.1.0 b.1.0) ∙ sym b.2)
    (signed_or_not bytes)

printed_number : (cost : ℤ) → unsigned_abs cost ≤ 10 ^ 7 → IsCostNumber (cost_text cost) cost
printed_number (pos n) small = Plain n (printed_form n small, small) refl
printed_number (negsuc n) small = Negated (thousandths_text (suc n)) (suc n) refl (printed_form (suc n) small, small) refl

pub is_read_back : IsReadBack
is_read_back cost small None none = absurd (none cost (printed_number cost small))
is_read_back cost small (Some other) some = ap Some (has_one_cost _ _ _ some (printed_number cost small))
