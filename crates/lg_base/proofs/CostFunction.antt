-- The function of cost numbers answers as reading them does.
use Rattle.std.proofs.Common.{◌≡◌, ◌≢◌, ℕ, zero, suc, ◌+◌, ◌*◌, ◌<◌, ◌≤◌, Bool, true, false, cond, leb, ltb, nat_eq, ◌&&◌, ℤ, pos, neg_ℤ, List, [], ◌∷◌, length, take, drop, Option, None, Some, position, refl, sym, ap, subst, ◌∙◌, arith}
use Rattle.std.specs.List.{list_all}
use Rattle.std.specs.Char.{digit_value}
use Rattle.std.specs.Option.{option_map}
use Rattle.std.specs.Str.Parse.{AllDigits, digits_value}
use Rattle.std.proofs.lemmas.Bool.{leb-true, ltb-true, leb-false, false≢true}
use Rattle.std.proofs.lemmas.Bool.Decides.{nat_tests}
use Rattle.std.proofs.lemmas.List.{take_rest}
use Rattle.lg_base.specs.Costs.{AreDigits, part_value, ReadsForm, ReadsSize, ReadsCost, are_digits, form_value, size_within, read_size, read_cost, HasOneReading}
use Rattle.lg_base.specs.Costs.CostForm.{Whole}
use Rattle.lg_base.specs.Costs.IsCostNumber.{Plain, Negated}
use Rattle.lg_base.proofs.CostReading.{is_point, refused_whole, read_part, refused_front, refused_back, read_both, refused_form, refused_value, refused_negated, refused_plain, same_first}
use Rattle.lg_base.proofs.CostLaws.{has_one_cost}

-- a test tells whether a fact holds
abbrev Told : Bool → Type 0 → Type 0
Told true P = P
Told false P = ¬ P

told_both : (a b : Bool) (P Q : Type 0) → Told a P → Told b Q → Told (a && b) (P × Q)
told_both true true P Q h k = (h, k)
told_both true false P Q h k = λ both. k both.1
told_both false b P Q h k = λ both. h both.0

told_lt : (a b : ℕ) (t : Bool) → t ≡ ltb a b → Told t (a < b)
told_lt a b true is = ltb-true a b (sym is)
told_lt a b false is = λ lt. false≢true (is ∙ grind (arith, nat_tests))

told_le : (a b : ℕ) (t : Bool) → t ≡ leb a b → Told t (a ≤ b)
told_le a b true is = leb-true a b (sym is)
told_le a b false is = λ le. false≢true (is ∙ grind (arith, nat_tests))

told_all : (w : List ℕ) → Told (list_all (λ c. ltb (digit_value c) 10) w) (AllDigits 10 w)
told_all [] = tt
told_all (c ∷ w) = told_both (ltb (digit_value c) 10) (list_all (λ d. ltb (digit_value d) 10) w) (digit_value c < 10) (AllDigits 10 w) (told_lt (digit_value c) 10 _ refl) (told_all w)

told_digits_by : (a b c : Bool) (P Q R : Type 0) → Told a P → Told b Q → Told c R → Told (a && b && c) ((P × R) × Q)
told_digits_by true true true P Q R h k l = ((h, l), k)
told_digits_by true true false P Q R h k l = λ all. l all.0.1
told_digits_by true false c P Q R h k l = λ all. k all.1
told_digits_by false b c P Q R h k l = λ all. h all.0.0

told_digits : (most : ℕ) (w : List ℕ) → Told (are_digits most w) (AreDigits most w)
told_digits most w = told_digits_by _ _ _ (0 < length w) (length w ≤ most) (AllDigits 10 w) (told_lt 0 (length w) _ refl) (told_le (length w) most _ refl) (told_all w)

reads_whole : (w : List ℕ) (t : Bool) → Told t (AreDigits 5 w) → None ≡ position is_point w → ReadsForm w (cond t (Some (1000 * digits_value 10 w)) None)
reads_whole w true digits place = Whole digits refl
reads_whole w false wrong place = refused_whole w place wrong

reads_part : (w : List ℕ) (t : Bool) → Told t (AreDigits 3 (drop 1 w)) → Some 0 ≡ position is_point w → ReadsForm w (cond t (Some (part_value (drop 1 w))) None)
reads_part w true digits place = read_part w 0 refl place (Some (part_value (drop 1 w))) (subst (AreDigits 3) (sym (take_rest w 1)) digits, ap part_value (sym (take_rest w 1)))
reads_part w false wrong place = read_part w 0 refl place None (λ digits. wrong (subst (AreDigits 3) (take_rest w 1) digits))

reads_both : (w : List ℕ) (k : ℕ) (s t : Bool) → Told s (AreDigits 5 (take (suc k) w)) → Told t (AreDigits 3 (drop (suc k + 1) w)) → Some (suc k) ≡ position is_point w
    → ReadsForm w (cond (s && t) (Some (1000 * digits_value 10 (take (suc k) w) + part_value (drop (suc k + 1) w))) None)
reads_both w k true true whole digits place =
    read_both w (suc k) (λ e. omega arith) place (digits_value 10 (take (suc k) w)) (part_value (drop (suc k + 1) w)) (whole, refl)
    (subst (AreDigits 3) (sym (take_rest w (suc k + 1))) digits, ap part_value (sym (take_rest w (suc k + 1))))
reads_both w k true false whole wrong place = refused_back w (suc k) (λ e. omega arith) place (λ digits. wrong (subst (AreDigits 3) (take_rest w (suc k + 1)) digits))
reads_both w k false t wrong digits place = refused_front w (suc k) (λ e. omega arith) place wrong

form_is_read : (w : List ℕ) (at : Option ℕ) → at ≡ position is_point w → ReadsForm w (form_value w at)
form_is_read w None place = reads_whole w (are_digits 5 w) (told_digits 5 w) place
form_is_read w (Some zero) place = reads_part w (are_digits 3 (drop 1 w)) (told_digits 3 (drop 1 w)) place
form_is_read w (Some (suc k)) place = reads_both w k (are_digits 5 (take (suc k) w)) (are_digits 3 (drop (suc k + 1) w)) (told_digits 5 (take (suc k) w)) (told_digits 3 (drop (suc k + 1) w)) place

within_read : (w : List ℕ) (value : ℕ) (t : Bool) → t ≡ leb value 10000000 → ReadsForm w (Some value) → ReadsSize w (cond t (Some value) None)
within_read w value true is form = (form, leb-true value 10000000 (sym is))
within_read w value false is form = refused_value w value form (leb-false value 10000000 (sym is))

size_within_read : (w : List ℕ) (o : Option ℕ) → ReadsForm w o → ReadsSize w (size_within o)
size_within_read w None form = refused_form w form
size_within_read w (Some value) form = within_read w value (leb value 10000000) refl form

size_is_read : (w : List ℕ) → ReadsSize w (read_size w)
size_is_read w = size_within_read w (form_value w (position is_point w)) (form_is_read w (position is_point w) refl)

negated_read : (w rest : List ℕ) → w ≡ 45 ∷ rest → (o : Option ℕ) → ReadsSize rest o → ReadsCost w (option_map (λ size. neg_ℤ (pos size)) o)
negated_read w rest split None none = refused_negated w rest split none
negated_read w rest split (Some size) is = Negated rest size split is refl

plain_read : (w : List ℕ) → ((rest : List ℕ) → w ≢ 45 ∷ rest) → (o : Option ℕ) → ReadsSize w o → ReadsCost w (option_map pos o)
plain_read w other None none = refused_plain w other none
plain_read w other (Some size) is = Plain size is refl

signed_read : (b : ℕ) (bs : List ℕ) (t : Bool) → t ≡ nat_eq b 45
    → ReadsCost (b ∷ bs) (cond t (option_map (λ size. neg_ℤ (pos size)) (read_size bs)) (option_map pos (read_size (b ∷ bs))))
signed_read b bs true is = let first : b ≡ 45 = grind (arith, nat_tests) in negated_read (b ∷ bs) bs (ap (λ c. c ∷ bs) first) (read_size bs) (size_is_read bs)
signed_read b bs false is =
    let other : b ≢ 45 = grind (arith, nat_tests) in
    plain_read (b ∷ bs) (λ rest same. other (same_first b 45 bs rest same)) (read_size (b ∷ bs)) (size_is_read (b ∷ bs))

-- the function answers as reading does
pub cost_is_read : (bytes : List ℕ) → ReadsCost bytes (read_cost bytes)
cost_is_read [] = refused_plain [] (λ rest same. cc) (size_is_read [])
cost_is_read (b ∷ bs) = signed_read b bs (nat_eq b 45) refl

-- and reading has one answer
pub has_one_reading : HasOneReading
has_one_reading bytes None None h k = refl
has_one_reading bytes None (Some cost) h k = absurd (h cost k)
has_one_reading bytes (Some cost) None h k = absurd (k cost h)
has_one_reading bytes (Some cost) (Some other) h k = ap Some (has_one_cost bytes cost other h k)

pub read_cost_is : (bytes : List ℕ) (answer : Option ℤ) → ReadsCost bytes answer → answer ≡ read_cost bytes
read_cost_is bytes answer h = has_one_reading bytes answer (read_cost bytes) h (cost_is_read bytes)
