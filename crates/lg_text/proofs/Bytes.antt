-- Bytes that a text has none of, and what stands before and behind the first of a kind.
use Rattle.std.proofs.Common.{◌≡◌, ℕ, zero, suc, ◌+◌, ◌/◌, ◌%◌, ◌<◌, Bool, true, false, cond, eqb, leb, List, [], ◌∷◌, ◌++◌, refl, ap, sym, ◌∙◌, subst, arith, eq-eqb, eqb-true, le-leb}
use Rattle.std.specs.List.{list_any, list_all}
use Rattle.std.specs.Fmt.{decimal, digits, digits_onto, digit_glyph}
use Rattle.std.proofs.lemmas.Bool.{and_parts, and_from, or_parts, or_from, both_ways, false_from_ne_true, cond-true, cond-false}
use Rattle.std.proofs.lemmas.List.Folds.{list_any-append}
use Rattle.lg_text.specs.Shown.{is_digit}

abbrev pub Lacks : ℕ → List ℕ → Type 0
Lacks c text = list_any (eqb c) text ≡ false

pub lacks_both : (c : ℕ) (xs ys : List ℕ) → Lacks c xs → Lacks c ys → Lacks c (xs ++ ys)
lacks_both c xs ys e f = list_any-append (eqb c) xs ys ∙ or_from (list_any (eqb c) xs) (list_any (eqb c) ys) e f

-- where each byte passes a test, there is none that fails it
pub lacks_from : (p : ℕ → Bool) (c : ℕ) → p c ≡ false → (xs : List ℕ) → list_all p xs ≡ true → Lacks c xs
lacks_from p c fails [] all = refl
lacks_from p c fails (x ∷ xs) all =
    let parts = and_parts (p x) (list_all p xs) all in
    or_from (eqb c x) (list_any (eqb c) xs)
    (false_from_ne_true (eqb c x) (λ e. both_ways (p c) fails (ap p (eqb-true c x e) ∙ parts.0)))
    (lacks_from p c fails xs parts.1)

-- ---- the bytes before the first c, or all; and those behind it, or none

abbrev pub until : ℕ → List ℕ → List ℕ
until c [] = []
until c (x ∷ xs) = cond (eqb c x) [] (x ∷ until c xs)

abbrev pub after : ℕ → List ℕ → List ℕ
after c [] = []
after c (x ∷ xs) = cond (eqb c x) xs (after c xs)

pub until_is : (c : ℕ) (a rest : List ℕ) → Lacks c a → until c (a ++ c ∷ rest) ≡ a
until_is c [] rest e = cond-true (eqb c c) [] (c ∷ until c rest) (eq-eqb c c refl)
until_is c (x ∷ a) rest e =
    let parts = or_parts (eqb c x) (list_any (eqb c) a) e in
    cond-false (eqb c x) [] (x ∷ until c (a ++ c ∷ rest)) parts.0 ∙ ap (λ (l : List ℕ). x ∷ l) (until_is c a rest parts.1)

pub until_all : (c : ℕ) (a : List ℕ) → Lacks c a → until c a ≡ a
until_all c [] e = refl
until_all c (x ∷ a) e =
    let parts = or_parts (eqb c x) (list_any (eqb c) a) e in
    cond-false (eqb c x) [] (x ∷ until c a) parts.0 ∙ ap (λ (l : List ℕ). x ∷ l) (until_all c a parts.1)

pub after_is : (c : ℕ) (a rest : List ℕ) → Lacks c a → after c (a ++ c ∷ rest) ≡ rest
after_is c [] rest e = cond-true (eqb c c) rest (after c rest) (eq-eqb c c refl)
after_is c (x ∷ a) rest e =
    let parts = or_parts (eqb c x) (list_any (eqb c) a) e in
    cond-false (eqb c x) (a ++ c ∷ rest) (after c (a ++ c ∷ rest)) parts.0 ∙ after_is c a rest parts.1

-- ---- digits

abbrev pub AreDigits : List ℕ → Type 0
AreDigits text = list_all is_digit text ≡ true

glyph_is_digit : (d : ℕ) → d < 10 → is_digit (digit_glyph false d) ≡ true
glyph_is_digit d less = subst (λ (c : ℕ). is_digit c ≡ true) (sym (cond-true (leb (suc d) 10) (48 + d) (87 + d) (le-leb (suc d) 10 (omega arith)))) (and_from (leb 48 (48 + d)) (leb (48 + d) 57) (le-leb _ _ (omega arith)) (le-leb _ _ (omega arith)))

digits_before : (k n : ℕ) (acc : List ℕ) → AreDigits acc → AreDigits (digits_onto k 10 false n acc)
digits_before zero n acc all = all
digits_before (suc k) n acc all =
    let next : List ℕ = digit_glyph false (n % 10) ∷ acc in
    let more : AreDigits next = and_from (is_digit (digit_glyph false (n % 10))) (list_all is_digit acc) (glyph_is_digit (n % 10) (omega arith)) all in
    either (eqb (n / 10) 0) next (digits_onto k 10 false (n / 10) next) more (digits_before k (n / 10) next more)
  where
    either : (b : Bool) (xs ys : List ℕ) → AreDigits xs → AreDigits ys → AreDigits (cond b xs ys)
    either true xs ys p q = p
    either false xs ys p q = q

pub decimal_digits : (n : ℕ) → AreDigits (decimal n)
unfolding digits
decimal_digits n = digits_before 64 n [] refl

pub decimal_lacks : (c n : ℕ) → is_digit c ≡ false → Lacks c (decimal n)
decimal_lacks c n fails = lacks_from is_digit c fails (decimal n) (decimal_digits n)
