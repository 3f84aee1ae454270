-- Printed costs, taken apart.
use Rattle.std.proofs.Common.{◌≡◌, ℕ, suc, ◌+◌, ◌-◌, ◌/◌, ◌%◌, ◌<◌, ◌≤◌, ◌^◌, ℤ, pos, negsuc, eqb, false, ne_eqb, List, ◌∷◌, ◌++◌, length, take, drop, get_or, decimal, refl, ap, sym, ◌∙◌, arith}
use Rattle.std.proofs.Math.Seq.{take-append_seam, drop-append_seam}
use Rattle.std.proofs.Math.ListN.{length-append, get_or-append}
use Rattle.std.proofs.lemmas.Int.{ints}
use Rattle.std.proofs.lemmas.Fmt.{decimal_is_IsNumeral, decimal_injective}
use Rattle.std.proofs.lemmas.Str.Parse.{not_in_digits}
use Rattle.lg_base.specs.Costs.{IsWithinCosts, cost_text, thousandths_text, three_digits}
use Rattle.std.specs.List.{list_any}
use Rattle.std.proofs.lemmas.Bool.{or_from}
use Rattle.std.proofs.lemmas.List.Folds.{list_any-append}
use Rattle.lg_audit.specs.Pieces.{HasNoBlank}
use Rattle.lg_audit.proofs.Numerals.{own}
use Rattle.lg_text.specs.Shown.{IsOneLine}
use Rattle.lg_audit.proofs.Cuts.{decimal_solid, decimal_lacks}

-- the four last bytes, and what stands before them
pub cut_end : (text a b : List ℕ) (k : ℕ) → length b ≡ 4 → text ≡ a ++ b → k ≡ length text - 4 → (take k text ≡ a) × (drop k text ≡ b)
cut_end text a b k four is place =
    let size : length text ≡ length a + length b = ap length is ∙ length-append a b in
    let at : k ≡ length a = omega arith in
    (ap (λ (n : ℕ). take n text) at ∙ ap (take (length a)) is ∙ take-append_seam a b, ap (λ (n : ℕ). drop n text) at ∙ ap (drop (length a)) is ∙ drop-append_seam a b)

pub same_part : (m n : ℕ) → m < 1000 → n < 1000 → three_digits m ≡ three_digits n → m ≡ n
same_part m n small small' e =
    let a : 48 + m / 100 ≡ 48 + n / 100 = ap (λ (t : List ℕ). get_or t 0 0) e in
    let b : 48 + m / 10 % 10 ≡ 48 + n / 10 % 10 = ap (λ (t : List ℕ). get_or t 1 0) e in
    let c : 48 + m % 10 ≡ 48 + n % 10 = ap (λ (t : List ℕ). get_or t 2 0) e in
    omega arith

-- the whole part and the part behind the point tell the thousandths
pub same_size : (text : List ℕ) (k whole part n : ℕ) → k ≡ length text - 4 → whole < 2 ^ 64 → part < 1000 → take k text ≡ decimal whole → drop k text ≡ 46 ∷ three_digits part
    → n ≤ 10 ^ 16 → text ≡ thousandths_text n → (whole ≡ n / 1000) × (part ≡ n % 1000)
same_size text k whole part n place fits small front back within is =
    let cuts = cut_end text (decimal (n / 1000)) (46 ∷ three_digits (n % 1000)) k refl is place in (
      decimal_injective whole (n / 1000) fits (omega arith) (sym front ∙ cuts.0),
      same_part part (n % 1000) small (omega arith) (ap (drop 1) (sym back ∙ cuts.1)),
    )

pub same_thousandths : (m n : ℕ) → m ≤ 10 ^ 16 → n ≤ 10 ^ 16 → thousandths_text m ≡ thousandths_text n → m ≡ n
same_thousandths m n small small' e =
    let text : List ℕ = thousandths_text m in
    let cuts = cut_end text (decimal (m / 1000)) (46 ∷ three_digits (m % 1000)) (length text - 4) refl refl refl in
    let parts = same_size text (length text - 4) (m / 1000) (m % 1000) n refl (omega arith) (omega arith) cuts.0 cuts.1 small' e in
    omega (arith, parts.0, parts.1)

-- no size begins with a minus sign
no_sign : (n : ℕ) (digits : List ℕ) → n ≤ 10 ^ 16 → 45 ∷ digits ≡ thousandths_text n → ⊥
no_sign n digits small e =
    let form = (decimal_is_IsNumeral (n / 1000) (omega arith)).0 in
    let first : 45 ≡ get_or (decimal (n / 1000)) 0 0 = ap (λ (t : List ℕ). get_or t 0 0) e ∙ get_or-append (decimal (n / 1000)) (46 ∷ three_digits (n % 1000)) 0 0 form.0 in
    not_in_digits own (decimal (n / 1000)) 45 form.1 (λ range. omega arith) 0 form.0 (sym first)

-- behind a minus sign stands a size above 0
pub after_sign : (text digits : List ℕ) → text ≡ 45 ∷ digits → (z : ℤ) → IsWithinCosts z → text ≡ cost_text z → (n : ℕ) × (1 ≤ n) × (n ≤ 10 ^ 16) × (digits ≡ thousandths_text n)
after_sign text digits split (pos n) within is = absurd (no_sign n digits (omega (arith, ints, within.0, within.1)) (sym split ∙ is))
after_sign text digits split (negsuc k) within is = (suc k, omega arith, omega (arith, ints, within.0, within.1), ap (drop 1) (sym split ∙ is))

-- ---- no blank

size_solid : (n : ℕ) → n ≤ 10 ^ 16 → HasNoBlank (thousandths_text n)
size_solid n small =
    list_any-append (eqb 32) (decimal (n / 1000)) (46 ∷ three_digits (n % 1000))
    ∙ or_from (list_any (eqb 32) (decimal (n / 1000))) _ (decimal_solid (n / 1000) (omega arith))
    (or_from (eqb 32 (48 + n % 1000 / 100)) _ (ne_eqb 32 _ (λ e. omega arith)) (or_from (eqb 32 (48 + n % 1000 / 10 % 10)) _ (ne_eqb 32 _ (λ e. omega arith))
    (or_from (eqb 32 (48 + n % 1000 % 10)) false (ne_eqb 32 _ (λ e. omega arith)) refl)))

pub cost_solid : (z : ℤ) → IsWithinCosts z → HasNoBlank (cost_text z)
cost_solid (pos n) within = size_solid n (omega (arith, ints, within.0, within.1))
cost_solid (negsuc k) within = size_solid (suc k) (omega (arith, ints, within.0, within.1))

-- ---- no line feed

size_single : (n : ℕ) → n ≤ 10 ^ 16 → IsOneLine (thousandths_text n)
size_single n small =
    list_any-append (eqb 10) (decimal (n / 1000)) (46 ∷ three_digits (n % 1000))
    ∙ or_from (list_any (eqb 10) (decimal (n / 1000))) _ (decimal_lacks 10 (n / 1000) (omega arith) (λ range. omega arith))
    (or_from (eqb 10 (48 + n % 1000 / 100)) _ (ne_eqb 10 _ (λ e. omega arith)) (or_from (eqb 10 (48 + n % 1000 / 10 % 10)) _ (ne_eqb 10 _ (λ e. omega arith))
    (or_from (eqb 10 (48 + n % 1000 % 10)) false (ne_eqb 10 _ (λ e. omega arith)) refl)))

pub cost_single : (z : ℤ) → IsWithinCosts z → IsOneLine (cost_text z)
cost_single (pos n) within = size_single n (omega (arith, ints, within.0, within.1))
cost_single (negsuc k) within = size_single (suc k) (omega (arith, ints, within.0, within.1))
