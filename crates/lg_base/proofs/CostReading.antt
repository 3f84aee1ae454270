-- How cost numbers are read: by the place of the point.
use Rattle.std.proofs.Common.{◌≡◌, ◌≢◌, ℕ, zero, suc, ◌+◌, ◌-◌, ◌*◌, ◌<◌, Bool, true, false, nat_eq, ℤ, pos, neg_ℤ, List, [], ◌∷◌, ◌++◌, length, take, drop, get_or, Option, None, Some, position, length-append, refl, ap, sym, ◌∙◌, subst, arith, le_refl}
use lib.Pointwise.{pointwise}
use Rattle.std.specs.List.{position_or_len}
use Rattle.std.specs.Char.{digit_value}
use Rattle.std.specs.Str.Parse.{AllDigits, digits_value}
use Rattle.std.proofs.lemmas.Bool.{true≢false}
use Rattle.std.proofs.lemmas.Bool.Decides.{nat_tests}
use Rattle.std.proofs.lemmas.List.Sums.{position_or_len_is}
use Rattle.std.proofs.lemmas.List.Quantifiers.{position-Some}
use Rattle.std.proofs.lemmas.Str.Parse.{IsNumeralModel, numerals_by_value, tells_digits, not_in_digits}
use Rattle.std.proofs.Math.Seq.{get_or-append_seam, take-append_seam, drop-append-add, drop-cons}
use Rattle.std.proofs.Math.ListN.{get_or-append}
use Rattle.std.proofs.lemmas.List.{take-append-drop, take_rest}
use Rattle.std.specs.Option.{SomeIff}
use Rattle.lg_base.specs.Costs.{AreDigits, part_value, CostForm, ReadsForm, IsSize, ReadsSize, IsCostNumber, ReadsCost}
use Rattle.lg_base.specs.Costs.CostForm.{Whole, WholeAndPart, Part}
use Rattle.lg_base.specs.Costs.IsCostNumber.{Plain, Negated}

abbrev pub is_point : ℕ → Bool
is_point byte = nat_eq byte 46

own : IsNumeralModel (AllDigits 10) (digits_value 10)
own = numerals_by_value (AllDigits 10) tells_digits

-- no digit is a point
digit_no_point : (digits : List ℕ) → AllDigits 10 digits → (k : ℕ) → k < length digits → is_point (get_or digits k 0) ≡ false
digit_no_point digits all k within =
    let other : get_or digits k 0 ≢ 46 = not_in_digits own digits 46 all (λ range. omega arith) k within in
    grind (arith, nat_tests)

-- digits have no point
pub no_point : (digits : List ℕ) → AllDigits 10 digits → position is_point digits ≡ None
no_point digits all =
    let at : position_or_len is_point digits ≡ length digits = position_or_len_is is_point digits (length digits) 0 (le_refl _) (digit_no_point digits all) (λ h. absurd (omega arith)) in
    grind (arith, nat_tests)

-- a point after digits stands where they end
pub point_after : (digits rest : List ℕ) → AllDigits 10 digits → position is_point (digits ++ 46 ∷ rest) ≡ Some (length digits)
point_after digits rest all =
    let longer : length (digits ++ 46 ∷ rest) ≡ length digits + suc (length rest) = length-append digits (46 ∷ rest) in
    let before : (k : ℕ) → k < length digits → is_point (get_or (digits ++ 46 ∷ rest) k 0) ≡ false = λ k within. ap is_point (get_or-append digits (46 ∷ rest) 0 k within) ∙ digit_no_point digits all k within in
    let here : get_or (digits ++ 46 ∷ rest) (length digits) 0 ≡ 46 = get_or-append_seam digits 46 rest 0 in
    let at : position_or_len is_point (digits ++ 46 ∷ rest) ≡ length digits = position_or_len_is is_point (digits ++ 46 ∷ rest) (length digits) 0 (omega arith) before (λ _. ap is_point here) in
    grind (arith, nat_tests)

-- the bytes from a place on, as code takes them
abbrev pub rest : List ℕ → ℕ → List ℕ
rest bytes from = take (length bytes - from) (drop from bytes)

-- what a cost number has where its point stands, or where it has none
abbrev pub FormAt : List ℕ → ℕ → Option ℕ → Type 0
FormAt bytes value None = AreDigits 5 bytes × (value ≡ 1000 * digits_value 10 bytes)
FormAt bytes value (Some zero) = AreDigits 3 (rest bytes 1) × (value ≡ part_value (rest bytes 1))
FormAt bytes value (Some (suc k)) = AreDigits 5 (take (suc k) bytes) × AreDigits 3 (rest bytes (suc k + 1))
    × (value ≡ 1000 * digits_value 10 (take (suc k) bytes) + part_value (rest bytes (suc k + 1)))

-- every form is of this kind
FormAt-both : (whole part : List ℕ) (value : ℕ) → AreDigits 5 whole → AreDigits 3 part → value ≡ 1000 * digits_value 10 whole + part_value part → FormAt (whole ++ 46 ∷ part) value (Some (length whole))
FormAt-both [] part value digits after is = absurd (omega (arith, digits.0.0))
FormAt-both (c ∷ cs) part value digits after is =
    let text : List ℕ = (c ∷ cs) ++ 46 ∷ part in
    let front : take (length (c ∷ cs)) text ≡ c ∷ cs = take-append_seam (c ∷ cs) (46 ∷ part) in
    let back : rest text (length (c ∷ cs) + 1) ≡ part = take_rest text (length (c ∷ cs) + 1) ∙ drop-append-add (c ∷ cs) (46 ∷ part) 1 in (
      subst (AreDigits 5) (sym front) digits,
      subst (AreDigits 3) (sym back) after,
      is ∙ ap (λ digits. 1000 * digits_value 10 digits + part_value part) (sym front)
          ∙ ap (λ digits. 1000 * digits_value 10 (take (length (c ∷ cs)) text) + part_value digits) (sym back),
    )

FormAt-part : (part : List ℕ) (value : ℕ) → AreDigits 3 part → value ≡ part_value part → FormAt (46 ∷ part) value (Some 0)
FormAt-part part value digits is =
    let back : rest (46 ∷ part) 1 ≡ part = take_rest (46 ∷ part) 1 in
    (subst (AreDigits 3) (sym back) digits, is ∙ ap part_value (sym back))

pub FormAt-from_form : (bytes : List ℕ) (value : ℕ) → CostForm bytes value → FormAt bytes value (position is_point bytes)
FormAt-from_form bytes value (Whole whole is) = subst (FormAt bytes value) (sym (no_point bytes whole.0.1)) (whole, is)
FormAt-from_form bytes value (WholeAndPart whole part split digits after is) =
    subst (λ text. FormAt text value (position is_point text)) (sym split)
    (subst (FormAt (whole ++ 46 ∷ part) value) (sym (point_after whole part digits.0.1)) (FormAt-both whole part value digits after is))
FormAt-from_form bytes value (Part part split digits is) =
    subst (λ text. FormAt text value (position is_point text)) (sym split)
    (subst (FormAt (46 ∷ part) value) (sym (point_after [] part tt)) (FormAt-part part value digits is))

-- the bytes on both sides of the point
split_at_point : (bytes : List ℕ) (at : ℕ) → position is_point bytes ≡ Some at → bytes ≡ take at bytes ++ 46 ∷ rest bytes (at + 1)
split_at_point bytes at place =
    let found = position-Some is_point bytes at 0 place in
    let here : get_or bytes at 0 ≡ 46 = grind (arith, nat_tests, found.1) in
    let next : suc at ≡ at + 1 = omega arith in
    sym (take-append-drop at bytes)
    ∙ ap (λ from. take at bytes ++ from) (drop-cons bytes at 0 found.0 ∙ ap (λ byte. byte ∷ drop (suc at) bytes) here)
    ∙ ap (λ from. take at bytes ++ 46 ∷ from) (ap (λ n. drop n bytes) next ∙ sym (take_rest bytes (at + 1)))

-- and what is of this kind has one of the forms
form-from_FormAt : (bytes : List ℕ) (value : ℕ) (at : Option ℕ) → position is_point bytes ≡ at → FormAt bytes value at → CostForm bytes value
form-from_FormAt bytes value None _ form = Whole form.0 form.1
form-from_FormAt bytes value (Some zero) place form = Part (rest bytes 1) (split_at_point bytes 0 place) form.0 form.1
form-from_FormAt bytes value (Some (suc k)) place form = WholeAndPart (take (suc k) bytes) (rest bytes (suc k + 1)) (split_at_point bytes (suc k) place) form.0 form.1 form.2

-- a text is a cost number in one way
FormAt_once : (bytes : List ℕ) (a b : ℕ) (at : Option ℕ) → FormAt bytes a at → FormAt bytes b at → a ≡ b
FormAt_once bytes a b None one other = one.1 ∙ sym other.1
FormAt_once bytes a b (Some zero) one other = one.1 ∙ sym other.1
FormAt_once bytes a b (Some (suc k)) one other = one.2 ∙ sym other.2

pub form_once : (bytes : List ℕ) (a b : ℕ) → CostForm bytes a → CostForm bytes b → a ≡ b
form_once bytes a b one other = FormAt_once bytes a b (position is_point bytes) (FormAt-from_form bytes a one) (FormAt-from_form bytes b other)

-- where the point stands, a form is as that place says
form_at : (bytes : List ℕ) (value : ℕ) (at : Option ℕ) → at ≡ position is_point bytes → CostForm bytes value → FormAt bytes value at
form_at bytes value at place form = subst (FormAt bytes value) (sym place) (FormAt-from_form bytes value form)

-- no point: digits alone
pub refused_whole : (bytes : List ℕ) → None ≡ position is_point bytes → ¬ AreDigits 5 bytes → ReadsForm bytes None
refused_whole bytes place wrong value form = wrong (form_at bytes value None place form).0

-- a point at the start: a part alone
pub read_part : (bytes : List ℕ) (at : ℕ) → at ≡ 0 → Some at ≡ position is_point bytes → (answer : Option ℕ) → SomeIff answer (AreDigits 3 (rest bytes 1)) (part_value (rest bytes 1)) → ReadsForm bytes answer
read_part bytes zero _ place None wrong = λ value form. wrong (form_at bytes value (Some 0) place form).0
read_part bytes zero _ place (Some part) right = form-from_FormAt bytes part (Some 0) (sym place) right
read_part bytes (suc k) start place answer _ = absurd (omega arith)

-- a point further on: digits on both sides
pub refused_front : (bytes : List ℕ) (at : ℕ) → at ≢ 0 → Some at ≡ position is_point bytes → ¬ AreDigits 5 (take at bytes) → ReadsForm bytes None
refused_front bytes zero inside _ _ = absurd (inside refl)
refused_front bytes (suc k) _ place wrong = λ value form. wrong (form_at bytes value (Some (suc k)) place form).0

pub refused_back : (bytes : List ℕ) (at : ℕ) → at ≢ 0 → Some at ≡ position is_point bytes → ¬ AreDigits 3 (rest bytes (at + 1)) → ReadsForm bytes None
refused_back bytes zero inside _ _ = absurd (inside refl)
refused_back bytes (suc k) _ place wrong = λ value form. wrong (form_at bytes value (Some (suc k)) place form).1

pub read_both : (bytes : List ℕ) (at : ℕ) → at ≢ 0 → Some at ≡ position is_point bytes → (whole part : ℕ) → AreDigits 5 (take at bytes) × (whole ≡ digits_value 10 (take at bytes)) → AreDigits 3 (rest bytes (at + 1)) × (part ≡ part_value (rest bytes (at + 1))) → CostForm bytes (1000 * whole + part)
read_both bytes zero inside place whole part front back = absurd (inside refl)
read_both bytes (suc k) _ place whole part front back =
    form-from_FormAt bytes (1000 * whole + part) (Some (suc k)) (sym place)
    (front.0, back.0, ap (λ n. 1000 * n + part) front.1 ∙ ap (λ n. 1000 * digits_value 10 (take (suc k) bytes) + n) back.1)

-- what has no form, or a value that is too large, is no cost number without a sign
pub refused_form : (bytes : List ℕ) → ReadsForm bytes None → ReadsSize bytes None
refused_form bytes formless size is = formless size is.0

pub refused_value : (bytes : List ℕ) (value : ℕ) → CostForm bytes value → 10000000 < value → ReadsSize bytes None
refused_value bytes value form large size is = omega (arith, form_once bytes value size form is.0, is.1)

-- bytes that are the same have the same first byte
pub same_first : (a b : ℕ) (cs ds : List ℕ) → a ∷ cs ≡ b ∷ ds → a ≡ b
same_first a b cs ds same = ap (λ (text : List ℕ). get_or text 0 0) same

-- no form begins with a minus sign
pub no_signed_form : (unsigned : List ℕ) (value : ℕ) → ¬ CostForm (45 ∷ unsigned) value
no_signed_form unsigned value (Whole digits is) = let first = digits.0.1.0 in omega arith
no_signed_form unsigned value (WholeAndPart [] part split digits after is) = let some = digits.0.0 in omega arith
no_signed_form unsigned value (WholeAndPart (c ∷ cs) part split digits after is) =
    let first = same_first 45 c unsigned (cs ++ 46 ∷ part) split in let digit = subst (λ d. digit_value d < 10) (sym first) digits.0.1.0 in omega arith
no_signed_form unsigned value (Part part split digits is) = omega (arith, same_first 45 46 unsigned part split)

-- what is left of bytes that a minus sign begins, and bytes that it does not begin
pub sign_taken : (bytes unsigned : List ℕ) → pointwise nat_eq (take 1 bytes) (45 ∷ []) ≡ true → unsigned ≡ drop 1 bytes → bytes ≡ 45 ∷ unsigned
sign_taken [] unsigned same _ = absurd cc
sign_taken (b ∷ bs) unsigned same is = let first : b ≡ 45 = grind (arith, nat_tests) in ap (λ c. c ∷ bs) first ∙ ap (λ rest. 45 ∷ rest) (sym is)

pub no_sign_taken : (bytes : List ℕ) → pointwise nat_eq (take 1 bytes) (45 ∷ []) ≡ false → (unsigned : List ℕ) → bytes ≢ 45 ∷ unsigned
no_sign_taken bytes other unsigned is = true≢false (ap (λ text. pointwise nat_eq (take 1 text) (45 ∷ [])) (sym is) ∙ other)

-- behind a minus sign stands the size that it negates
pub negated : (bytes unsigned : List ℕ) → bytes ≡ 45 ∷ unsigned → (cost : ℤ) → IsCostNumber bytes cost → (size : ℕ) × IsSize unsigned size × (cost ≡ neg_ℤ (pos size))
negated bytes unsigned split cost (Plain size is same) = absurd (no_signed_form unsigned size (subst (λ text. CostForm text size) split is.0))
negated bytes unsigned split cost (Negated other size begins is same) =
    let rest : other ≡ unsigned = ap (drop 1) (sym begins ∙ split) in
    (size, subst (λ text. IsSize text size) rest is, same)

-- and other bytes are the size itself
pub plain : (bytes : List ℕ) → ((unsigned : List ℕ) → bytes ≢ 45 ∷ unsigned) → (cost : ℤ) → IsCostNumber bytes cost → (size : ℕ) × IsSize bytes size × (cost ≡ pos size)
plain bytes other cost (Plain size is same) = (size, is, same)
plain bytes other cost (Negated unsigned size begins is same) = absurd (other unsigned begins)

pub refused_negated : (bytes unsigned : List ℕ) → bytes ≡ 45 ∷ unsigned → ReadsSize unsigned None → ReadsCost bytes None
refused_negated bytes unsigned split none cost number = let found = negated bytes unsigned split cost number in none found.0 found.1

pub refused_plain : (bytes : List ℕ) → ((unsigned : List ℕ) → bytes ≢ 45 ∷ unsigned) → ReadsSize bytes None → ReadsCost bytes None
refused_plain bytes other none cost number = let found = plain bytes other cost number in none found.0 found.1
