-- Which bytes made texts have, and what a word ends in.
use Rattle.std.proofs.Common.{◌≡◌, ℕ, zero, suc, ◌+◌, ◌/◌, ◌%◌, ◌^◌, ◌<◌, ◌≤◌, Bool, true, leb, List, [], ◌∷◌, ◌++◌, codes, refl, sym, ◌∙◌, subst, arith, le-leb, ◌&&◌}
use Rattle.std.specs.Fmt.{decimal}
use Rattle.std.specs.List.{list_all, flat_map, range_with_len, All}
use Rattle.std.specs.Str.{IsUtf8}
use Rattle.std.proofs.lemmas.Bool.{and_parts, and_from}
use Rattle.std.proofs.lemmas.Fmt.{decimal_by_steps}
use Rattle.std.proofs.lemmas.List.Folds.{list_all-append}
use Rattle.std.proofs.lemmas.List.Elements.{All-nil, All-cons}
use Rattle.std.proofs.lemmas.Nat.{mod_below}
use Rattle.std.proofs.lemmas.Str.{IsUtf8-from_ascii}
use Rattle.std.proofs.lemmas.Str.Ascii.{IsAscii-from_all}
use Rattle.lg_gen.specs.Made.{word, expression, entry_line, next, drawn, drawn_words, word_count, sentence_line, behind_sentence, sentence_lines}

-- ---- tests of every byte

abbrev pub is_digit : ℕ → Bool
is_digit b = leb 48 b && leb b 57

-- from the space to the tilde
abbrev pub is_printed : ℕ → Bool
is_printed b = leb 32 b && leb b 126

abbrev pub is_small : ℕ → Bool
is_small b = leb b 127

pub all_both : (p : ℕ → Bool) (xs ys : List ℕ) → list_all p xs ≡ true → list_all p ys ≡ true → list_all p (xs ++ ys) ≡ true
all_both p xs ys e f = list_all-append p xs ys ∙ and_from (list_all p xs) (list_all p ys) e f

pub all_wider : (p q : ℕ → Bool) → ((b : ℕ) → p b ≡ true → q b ≡ true) → (xs : List ℕ) → list_all p xs ≡ true → list_all q xs ≡ true
all_wider p q wider [] all = refl
all_wider p q wider (x ∷ xs) all =
    let parts = and_parts (p x) (list_all p xs) all in and_from (q x) (list_all q xs) (wider x parts.0) (all_wider p q wider xs parts.1)

digit_is_printed : (b : ℕ) → is_digit b ≡ true → is_printed b ≡ true
digit_is_printed b e = grind (arith)

pub printed_is_small : (b : ℕ) → is_printed b ≡ true → is_small b ≡ true
printed_is_small b e = grind (arith)

pub is_digit_at : (k : ℕ) → k < 10 → is_digit (48 + k) ≡ true
is_digit_at k h = and_from (leb 48 (48 + k)) (leb (48 + k) 57) (le-leb _ _ (omega arith)) (le-leb _ _ (omega arith))

small_bytes : (xs : List ℕ) → list_all is_small xs ≡ true → All (λ b. b < 128) xs
small_bytes [] all = All-nil _
small_bytes (x ∷ xs) all =
    let parts = and_parts (is_small x) (list_all is_small xs) all in
    let small : x < 128 = grind (arith) in
    All-cons (λ (b : ℕ). b < 128) x xs small (small_bytes xs parts.1)

pub small_is_utf8 : (xs : List ℕ) → list_all is_small xs ≡ true → IsUtf8 xs
small_is_utf8 xs all = IsUtf8-from_ascii xs (IsAscii-from_all xs (small_bytes xs all))

-- ---- numbers

-- digits alone, one or more
pub record AreDigits (ds : List ℕ) : Type 0 where
  pub all : list_all is_digit ds ≡ true
  pub front : List ℕ
  pub last : ℕ
  pub is : ds ≡ front ++ last ∷ []
  pub last_is : is_digit last ≡ true

pub decimal_digits : (n : ℕ) → n < 2 ^ 64 → AreDigits (decimal n)
decimal_digits = decimal_by_steps (λ n ds. AreDigits ds)
    (λ n h. record { all = and_from (is_digit (48 + n)) true (is_digit_at n h) refl; front = []; last = 48 + n; is = refl; last_is = is_digit_at n h })
    (λ n ds h front. let digit = is_digit_at (n % 10) (mod_below n 10 (omega arith)) in
    record { all = all_both is_digit ds ((48 + n % 10) ∷ []) front.all (and_from (is_digit (48 + n % 10)) true digit refl); front = ds; last = 48 + n % 10; is = refl; last_is = digit })

pub word_is_printed : (n : ℕ) → n < 2 ^ 64 → list_all is_printed (word n) ≡ true
word_is_printed n h = all_wider is_digit is_printed digit_is_printed (decimal n) (decimal_digits n h).all

-- ---- texts

expression_is_printed : (k : ℕ) → k < 4 → list_all is_printed (expression k) ≡ true
expression_is_printed zero h = refl
expression_is_printed (suc zero) h = refl
expression_is_printed (suc (suc zero)) h = refl
expression_is_printed (suc (suc (suc k))) h = let three : k ≡ 0 = omega arith in subst (λ (m : ℕ). list_all is_printed (expression (suc (suc (suc m)))) ≡ true) (sym three) refl

printed_small : (xs : List ℕ) → list_all is_printed xs ≡ true → list_all is_small xs ≡ true
printed_small = all_wider is_printed is_small printed_is_small

entry_is_small : (i : ℕ) → i < 2 ^ 64 → list_all is_small (entry_line i) ≡ true
entry_is_small i h =
    let e = expression (i % 4) in
    all_both is_small (word i) (codes ": " ++ (e ++ codes ";\n")) (printed_small (word i) (word_is_printed i h))
    (all_both is_small e (codes ";\n") (printed_small e (expression_is_printed (i % 4) (mod_below i 4 (omega arith)))) refl)

pub entries_are_small : (first n : ℕ) → first + n < 2 ^ 64 → list_all is_small (flat_map entry_line (range_with_len first n)) ≡ true
entries_are_small first zero h = refl
entries_are_small first (suc n) h = all_both is_small (entry_line first) _ (entry_is_small first (omega arith)) (entries_are_small (first + 1) n (omega arith))

pub drawn_is_less : (words state : ℕ) → 1 ≤ words → drawn words state < words
drawn_is_less words state some = mod_below (state / 65536) words some

module _ (words : ℕ) (some : 1 ≤ words) (few : words ≤ 100000) where
  pub drawn_are_printed : (n state : ℕ) → list_all is_printed (drawn_words words n state) ≡ true
  drawn_are_printed zero state = refl
  drawn_are_printed (suc n) state =
      let less = drawn_is_less words (next state) some in
      all_both is_printed (word (drawn words (next state))) (drawn_words words n (next state)) (word_is_printed (drawn words (next state)) (omega arith)) (drawn_are_printed n (next state))

  pub sentences_are_small : (n state : ℕ) → list_all is_small (sentence_lines words n state) ≡ true
  sentences_are_small zero state = refl
  sentences_are_small (suc n) state =
      let drawn_here = drawn_words words (word_count state) (next state) in
      all_both is_small (sentence_line words state) (sentence_lines words n (behind_sentence state))
      (all_both is_small drawn_here (codes "\n") (printed_small drawn_here (drawn_are_printed (word_count state) (next state))) refl)
      (sentences_are_small n (behind_sentence state))
