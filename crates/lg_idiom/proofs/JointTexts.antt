-- The text of a joint tells its three numbers.
use Rattle.std.proofs.Common.{◌≡◌, ℕ, zero, suc, ◌+◌, ◌/◌, ◌%◌, ◌<◌, ◌≤◌, Bool, true, false, cond, eqb, leb, inl, inr, List, [], ◌∷◌, ◌++◌, length, refl, ap, sym, subst, arith, eqb-true, le-leb}
use Rattle.std.specs.Prelude.{nat_le, ◌&&◌}
use Rattle.std.specs.List.{list_all}
use Rattle.std.specs.Fmt.{decimal, digits, digits_onto, digit_glyph}
use Rattle.std.proofs.lemmas.Bool.{and_parts, and_from, both_ways, false_from_ne_true, cond-true, cond-false, cases_lt}
use Rattle.std.proofs.lemmas.Fmt.{decimal_injective, length-decimal-le}
use Rattle.lg_gram.specs.Limits.{JOINT_RANK, JOINT_PLACE}
use Rattle.lg_gram.specs.Names.{joint_text, joint_fits}
use Rattle.std.proofs.lemmas.Bool.Decides.{nat_tests}

-- ---- digits

abbrev is_digit : ℕ → Bool
is_digit b = nat_le 48 b && nat_le b 57

abbrev AreDigits : List ℕ → Type 0
AreDigits text = list_all is_digit text ≡ true

glyph_is_digit : (d : ℕ) → d < 10 → is_digit (digit_glyph false d) ≡ true
glyph_is_digit d less = subst (λ (c : ℕ). is_digit c ≡ true) (sym (cond-true (leb (suc d) 10) (48 + d) (87 + d) (le-leb (suc d) 10 (omega arith)))) (and_from (leb 48 (48 + d)) (leb (48 + d) 57) (le-leb _ _ (omega arith)) (le-leb _ _ (omega arith)))

digits_before : (k n : ℕ) (acc : List ℕ) → AreDigits acc → AreDigits (digits_onto k 10 false n acc)
digits_before zero n acc all = all
digits_before (suc k) n acc all =
    let next : List ℕ = digit_glyph false (n % 10) ∷ acc in
    let more : AreDigits next = and_from (is_digit (digit_glyph false (n % 10))) (list_all is_digit acc) (glyph_is_digit (n % 10) (omega arith)) all in
    either (eqb (n / 10) 0) next (digits_onto k 10 false (n / 10) next) more (digits_before k (n / 10) next more)
  where
    either : (b : Bool) (xs ys : List ℕ) → AreDigits xs → AreDigits ys → AreDigits (cond b xs ys)
    either true xs ys p q = p
    either false xs ys p q = q

decimal_digits : (n : ℕ) → AreDigits (decimal n)
unfolding digits
decimal_digits n = digits_before 64 n [] refl

-- ---- a number with more digits is longer

grows : (k n : ℕ) (acc : List ℕ) → length acc ≤ length (digits_onto k 10 false n acc)
grows zero n acc = omega arith
grows (suc k) n acc =
    let next : List ℕ = digit_glyph false (n % 10) ∷ acc in
    either (eqb (n / 10) 0) next (digits_onto k 10 false (n / 10) next) (omega arith) (let more = grows k (n / 10) next in omega (arith, more))
  where
    either : (b : Bool) (xs ys : List ℕ) → length acc ≤ length xs → length acc ≤ length ys → length acc ≤ length (cond b xs ys)
    either true xs ys p q = p
    either false xs ys p q = q

-- n has more than j digits
abbrev IsAbove : ℕ → ℕ → Type 0
IsAbove zero n = 0 ≤ n
IsAbove (suc j) n = (0 < n / 10) × IsAbove j (n / 10)

longer : (j k n : ℕ) (acc : List ℕ) → IsAbove j n → j < k → length acc + suc j ≤ length (digits_onto k 10 false n acc)
longer j zero n acc above less = absurd (omega (arith, less))
longer zero (suc k) n acc above less =
    let next : List ℕ = digit_glyph false (n % 10) ∷ acc in
    either (eqb (n / 10) 0) next (digits_onto k 10 false (n / 10) next) (omega arith) (let more = grows k (n / 10) next in omega (arith, more))
  where
    either : (b : Bool) (xs ys : List ℕ) → length acc + 1 ≤ length xs → length acc + 1 ≤ length ys → length acc + 1 ≤ length (cond b xs ys)
    either true xs ys p q = p
    either false xs ys p q = q
longer (suc j) (suc k) n acc above less =
    let next : List ℕ = digit_glyph false (n % 10) ∷ acc in
    let more = longer j k (n / 10) next above.1 (omega (arith, less)) in
    let some : eqb (n / 10) 0 ≡ false = false_from_ne_true (eqb (n / 10) 0) (λ e. (let z = eqb-true (n / 10) 0 e in let high = above.0 in omega (arith, z, high))) in
    subst (λ (xs : List ℕ). length acc + suc (suc j) ≤ length xs) (sym (cond-false (eqb (n / 10) 0) next (digits_onto k 10 false (n / 10) next) some)) (omega (arith, more))

from_zero : (a b : ℕ) → 0 + a ≤ b → a ≤ b
from_zero a b h = omega (arith, h)

long_decimal : (j n : ℕ) → IsAbove j n → j < 64 → suc j ≤ length (decimal n)
unfolding digits
long_decimal j n above less = from_zero (suc j) (length (decimal n)) (longer j 64 n [] above less)

same_rank : (n m : ℕ) → m ≤ JOINT_RANK → decimal n ≡ decimal m → n ≡ m
same_rank n m few e =
    let short : length (decimal m) ≤ 6 = length-decimal-le 6 m (omega arith) (omega (arith, few)) (omega (arith, few)) in
    elim (cases_lt n 1000000) [
      | inl less ↦ decimal_injective n m (omega (arith, less)) (omega (arith, few)) e
      | inr high ↦ absurd (let more = long_decimal 6 n (omega (arith, high), (omega (arith, high), (omega (arith, high), (omega (arith, high), (omega (arith, high), (omega (arith, high), omega arith)))))) (omega arith) in let same = ap length e in omega (arith, more, same, short))
    ]

same_number : (n m : ℕ) → m ≤ JOINT_PLACE → decimal n ≡ decimal m → n ≡ m
same_number n m few e =
    let short : length (decimal m) ≤ 3 = length-decimal-le 3 m (omega arith) (omega (arith, few)) (omega (arith, few)) in
    elim (cases_lt n 1000) [
      | inl less ↦ decimal_injective n m (omega (arith, less)) (omega (arith, few)) e
      | inr high ↦ absurd (let more = long_decimal 3 n (omega (arith, high), (omega (arith, high), (omega (arith, high), omega arith))) (omega arith) in let same = ap length e in omega (arith, more, same, short))
    ]

-- ---- texts up to a point

heads : (x y : ℕ) (xs ys : List ℕ) → ◌≡◌ {A = List ℕ} (x ∷ xs) (y ∷ ys) → (x ≡ y) × (xs ≡ ys)
heads x y xs ys e = (cc, cc)

no_point : (xs : List ℕ) → AreDigits (46 ∷ xs) → ⊥
no_point xs all = both_ways (is_digit 46) refl (and_parts (is_digit 46) (list_all is_digit xs) all).0

split_point : (a b x y : List ℕ) → AreDigits a → AreDigits b → a ++ 46 ∷ x ≡ b ++ 46 ∷ y → (a ≡ b) × (x ≡ y)
split_point [] [] x y p q e = (refl, (heads 46 46 x y e).1)
split_point [] (d ∷ b) x y p q e = absurd (no_point b (subst (λ (z : ℕ). AreDigits (z ∷ b)) (sym (heads 46 d x (b ++ 46 ∷ y) e).0) q))
split_point (d ∷ a) [] x y p q e = absurd (no_point a (subst (λ (z : ℕ). AreDigits (z ∷ a)) (heads d 46 (a ++ 46 ∷ x) y e).0 p))
split_point (c ∷ a) (d ∷ b) x y p q e =
    let first = heads c d (a ++ 46 ∷ x) (b ++ 46 ∷ y) e in
    let rest = split_point a b x y (and_parts (is_digit c) (list_all is_digit a) p).1 (and_parts (is_digit d) (list_all is_digit b) q).1 first.1 in
    ((λ i. first.0 i ∷ rest.0 i), rest.1)

-- ---- a joint

fitting : (rank start joint : ℕ) → joint_fits rank start joint ≡ true → (rank ≤ JOINT_RANK) × ((start ≤ JOINT_PLACE) × (joint ≤ JOINT_PLACE))
fitting rank start joint h = (grind (arith, nat_tests), (grind (arith, nat_tests), grind (arith, nat_tests)))

-- where the text is that of a joint, its numbers are the joint's
pub joint_read : (r s j rank start joint : ℕ) → joint_fits rank start joint ≡ true → joint_text r s j ≡ joint_text rank start joint → (r ≡ rank) × ((s ≡ start) × (j ≡ joint))
joint_read r s j rank start joint fits e =
    let few = fitting rank start joint fits in
    let rest = heads 100 100 _ _ (heads 105 105 _ _ e).1 in
    let first = split_point (decimal r) (decimal rank) (decimal s ++ 46 ∷ decimal j) (decimal start ++ 46 ∷ decimal joint) (decimal_digits r) (decimal_digits rank) rest.1 in
    let second = split_point (decimal s) (decimal start) (decimal j) (decimal joint) (decimal_digits s) (decimal_digits start) first.1 in
    (same_rank r rank few.0 first.0, (same_number s start few.1.0 second.0, same_number j joint few.1.1 second.1))
