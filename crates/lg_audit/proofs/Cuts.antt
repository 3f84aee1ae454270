-- A text that is cut at a blank.
use Rattle.std.proofs.Common.{◌≡◌, ◌≢◌, ℕ, suc, ◌+◌, ◌-◌, ◌<◌, ◌^◌, Bool, true, false, ◌||◌, eqb, List, [], ◌∷◌, ◌++◌, length, take, drop, get_or, decimal, All, refl, ap, sym, ◌∙◌, subst, arith, ne_eqb, eq-eqb, true≢false}
use Rattle.std.specs.Int.{IsInRange}
use Rattle.std.specs.List.{list_any}
use Rattle.std.proofs.lemmas.Bool.{or_parts}
use Rattle.std.proofs.lemmas.Fmt.{decimal_is_IsNumeral}
use Rattle.std.proofs.lemmas.Str.Parse.{not_in_digits}
use Rattle.std.proofs.lemmas.List.Folds.{list_any_none, list_any-append}
use Rattle.std.proofs.lemmas.List.{take-append-drop, take_rest, get_or-take, get_or-drop, length-take-le, get_or_default, append_cancel_left, append_assoc}
use Rattle.std.proofs.Math.Seq.{drop-cons}
use Rattle.std.proofs.Math.ListN.{length-drop}
use Rattle.lg_text.specs.Shown.{IsOneLine}
use Rattle.lg_audit.specs.Pieces.{Lacks, HasNoBlank}
use Rattle.lg_audit.proofs.Numerals.{own}

pub none_of : (c : ℕ) (xs : List ℕ) → All (λ byte. byte ≢ c) xs → Lacks c xs
none_of c xs all = list_any_none (eqb c) xs (λ k d within. ne_eqb c (get_or xs k d) (λ e. all k d within (sym e)))

by_places : (c : ℕ) (xs : List ℕ) → ((k : ℕ) → k < length xs → get_or xs k 0 ≢ c) → Lacks c xs
by_places c xs all = none_of c xs (λ k d within e. all k within (get_or_default xs k 0 d within ∙ e))

-- what is before and behind a byte
cut : (c : ℕ) (xs : List ℕ) (at : ℕ) → at < length xs → get_or xs at 0 ≡ c → xs ≡ take at xs ++ c ∷ take (length xs - (at + 1)) (drop (at + 1) xs)
cut c xs at within is =
    let next : suc at ≡ at + 1 = omega arith in
    sym (take-append-drop at xs)
    ∙ ap (λ (from : List ℕ). take at xs ++ from) (drop-cons xs at 0 within ∙ ap (λ (byte : ℕ). byte ∷ drop (suc at) xs) is)
    ∙ ap (λ (from : List ℕ). take at xs ++ c ∷ from) (ap (λ (n : ℕ). drop n xs) next ∙ sym (take_rest xs (at + 1)))

-- the first such byte, and the last one
pub cut_first : (c : ℕ) (xs : List ℕ) (at : ℕ) → (at < length xs) × (get_or xs at 0 ≡ c) × ((k : ℕ) → k < at → get_or xs k 0 ≢ c)
    → Lacks c (take at xs) × (xs ≡ take at xs ++ c ∷ take (length xs - (at + 1)) (drop (at + 1) xs))
cut_first c xs at h =
    let size : length (take at xs) ≡ at = length-take-le at xs (omega (arith, h.0)) in
    (by_places c (take at xs) (λ k within e. h.2 k (omega arith) (sym (get_or-take at xs k 0 (omega arith)) ∙ e)), cut c xs at h.0 h.1)

pub cut_last : (c : ℕ) (xs : List ℕ) (at : ℕ) → (at < length xs) × (get_or xs at 0 ≡ c) × ((k : ℕ) → at < k → k < length xs → get_or xs k 0 ≢ c)
    → Lacks c (take (length xs - (at + 1)) (drop (at + 1) xs)) × (xs ≡ take at xs ++ c ∷ take (length xs - (at + 1)) (drop (at + 1) xs))
cut_last c xs at h =
    let rest : take (length xs - (at + 1)) (drop (at + 1) xs) ≡ drop (at + 1) xs = take_rest xs (at + 1) in
    let size : length (drop (at + 1) xs) ≡ length xs - (at + 1) = length-drop (at + 1) xs in
    let none : Lacks c (drop (at + 1) xs) = by_places c (drop (at + 1) xs) (λ k within e. h.2 (at + 1 + k) (omega arith) (omega (arith, h.0)) (sym (get_or-drop (at + 1) xs k 0) ∙ e)) in
    (ap (λ (t : List ℕ). list_any (eqb c) t) rest ∙ none, cut c xs at h.0 h.1)

-- ---- a text is cut in one way

pub has_one : (c : ℕ) (a r : List ℕ) → Lacks c (a ++ c ∷ r) → ⊥
has_one c a r e =
    true≢false (sym (list_any-append (eqb c) a (c ∷ r) ∙ or_right (list_any (eqb c) a) (eqb c c || list_any (eqb c) r) (ap (λ (b : Bool). b || list_any (eqb c) r) (eq-eqb c c refl))) ∙ e)
  where
    or_right : (b x : Bool) → x ≡ true → (b || x) ≡ true
    or_right true x is = refl
    or_right false x is = is

pub has_blank : (a r : List ℕ) → HasNoBlank (a ++ 32 ∷ r) → ⊥
has_blank a r e = has_one 32 a r e

pub same_cut : (c : ℕ) (a b r s : List ℕ) → Lacks c a → Lacks c b → a ++ c ∷ r ≡ b ++ c ∷ s → (a ≡ b) × (r ≡ s)
same_cut c [] [] r s p q e = (refl, ap (drop 1) e)
same_cut c [] (y ∷ b) r s p q e = let first : c ≡ y = ap (λ (t : List ℕ). get_or t 0 0) e in absurd (has_one c [] b (subst (λ (z : ℕ). Lacks c (z ∷ b)) (sym first) q))
same_cut c (x ∷ a) [] r s p q e = let first : x ≡ c = ap (λ (t : List ℕ). get_or t 0 0) e in absurd (has_one c [] a (subst (λ (z : ℕ). Lacks c (z ∷ a)) first p))
same_cut c (x ∷ a) (y ∷ b) r s p q e =
    let first : x ≡ y = ap (λ (t : List ℕ). get_or t 0 0) e in
    let parts = same_cut c a b r s (or_parts (eqb c x) (list_any (eqb c) a) p).1 (or_parts (eqb c y) (list_any (eqb c) b) q).1 (ap (drop 1) e) in
    (λ i. first i ∷ parts.0 i, parts.1)

pub same_first : (a b r s : List ℕ) → HasNoBlank a → HasNoBlank b → a ++ 32 ∷ r ≡ b ++ 32 ∷ s → (a ≡ b) × (r ≡ s)
same_first a b r s p q e = same_cut 32 a b r s p q e

pub same_last : (r s a b : List ℕ) → HasNoBlank a → HasNoBlank b → r ++ 32 ∷ a ≡ s ++ 32 ∷ b → (r ≡ s) × (a ≡ b)
same_last [] [] a b p q e = (refl, ap (drop 1) e)
same_last [] (y ∷ s) a b p q e = absurd (has_blank s b (subst HasNoBlank (ap (drop 1) e) p))
same_last (x ∷ r) [] a b p q e = absurd (has_blank r a (subst HasNoBlank (sym (ap (drop 1) e)) q))
same_last (x ∷ r) (y ∷ s) a b p q e =
    let first : x ≡ y = ap (λ (t : List ℕ). get_or t 0 0) e in
    let parts = same_last r s a b p q (ap (drop 1) e) in
    (λ i. first i ∷ parts.0 i, parts.1)

-- ---- numbers

-- a byte that is no digit
pub decimal_lacks : (c n : ℕ) → n < 2 ^ 64 → ¬ IsInRange 48 57 c → Lacks c (decimal n)
decimal_lacks c n small other = by_places c (decimal n) (λ k within. not_in_digits own (decimal n) c (decimal_is_IsNumeral n small).0.1 other k within)

pub decimal_solid : (n : ℕ) → n < 2 ^ 64 → HasNoBlank (decimal n)
decimal_solid n small = decimal_lacks 32 n small (λ range. omega arith)

-- ---- a piece behind a word

-- what stands behind the word has a blank, and its first piece is this one
module _ (word text piece rest : List ℕ) (solid : HasNoBlank piece) (is : text ≡ word ++ (piece ++ 32 ∷ rest)) where
  behind_word : (more : List ℕ) → text ≡ word ++ more → more ≡ piece ++ 32 ∷ rest
  behind_word more e = append_cancel_left word more (piece ++ 32 ∷ rest) (sym e ∙ is)

  pub some_piece : (more : List ℕ) → text ≡ word ++ more → HasNoBlank more → ⊥
  some_piece more e none = has_blank piece rest (subst HasNoBlank (behind_word more e) none)

  pub piece_is : (more first left : List ℕ) → text ≡ word ++ more → HasNoBlank first → more ≡ first ++ 32 ∷ left → (first ≡ piece) × (left ≡ rest)
  piece_is more first left e none cut = same_first first piece left rest none solid (sym cut ∙ behind_word more e)

-- the same piece stands behind the word, and the same behind it
pub same_piece : (word text a b r s : List ℕ) → HasNoBlank a → HasNoBlank b → text ≡ word ++ (a ++ 32 ∷ r) → text ≡ word ++ (b ++ 32 ∷ s) → (a ≡ b) × (r ≡ s)
same_piece word text a b r s p q e f = same_first a b r s p q (append_cancel_left word _ _ (sym e ∙ f))

-- what stands behind a number
pub step : (word text rest s : List ℕ) (m n : ℕ) → m < 2 ^ 64 → n < 2 ^ 64 → text ≡ word ++ (decimal m ++ 32 ∷ rest) → text ≡ word ++ (decimal n ++ 32 ∷ s) → rest ≡ s
step word text rest s m n small small' e f = (same_piece word text (decimal m) (decimal n) rest s (decimal_solid m small) (decimal_solid n small') e f).1

pub step_small : (word text rest s : List ℕ) (m n : ℕ) → m < 2 ^ 32 → n < 2 ^ 32 → text ≡ word ++ (decimal m ++ 32 ∷ rest) → text ≡ word ++ (decimal n ++ 32 ∷ s) → rest ≡ s
step_small word text rest s m n small small' e f = step word text rest s m n (omega arith) (omega arith) e f

-- ---- the last pieces

-- three pieces behind what stands before them
pub grouped : (word left right cost : List ℕ) → word ++ 32 ∷ (left ++ 32 ∷ (right ++ 32 ∷ cost)) ≡ ((word ++ 32 ∷ left) ++ 32 ∷ right) ++ 32 ∷ cost
grouped word left right cost = sym (append_assoc (word ++ 32 ∷ left) (32 ∷ right) (32 ∷ cost) ∙ append_assoc word (32 ∷ left) (32 ∷ (right ++ 32 ∷ cost)))

-- ---- lines

-- the parts of a line are lines
pub parts_are_single : (a b : List ℕ) → IsOneLine (a ++ b) → IsOneLine a × IsOneLine b
parts_are_single a b e = or_parts (list_any (eqb 10) a) (list_any (eqb 10) b) (sym (list_any-append (eqb 10) a b) ∙ e)

-- the same stands behind a word
pub behind_same : (word text r s : List ℕ) → text ≡ word ++ r → text ≡ word ++ s → r ≡ s
behind_same word text r s e f = append_cancel_left word r s (sym e ∙ f)
