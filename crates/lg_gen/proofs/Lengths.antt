-- Made texts are short.
use Rattle.std.proofs.Common.{◌≡◌, ℕ, zero, suc, ◌+◌, ◌*◌, ◌%◌, ◌<◌, ◌≤◌, ◌++◌, codes, length, sym, subst, arith}
use Rattle.std.specs.List.{flat_map, range_with_len}
use Rattle.std.proofs.lemmas.Fmt.{length-decimal-le}
use Rattle.std.proofs.lemmas.List.{length-append}
use Rattle.std.proofs.lemmas.Nat.{mod_below}
use Rattle.lg_gen.specs.Made.{word, expression, entry_line, next, drawn, drawn_words, word_count, sentence_line, behind_sentence, sentence_lines}
use Rattle.lg_gen.proofs.Bytes.{drawn_is_less}

word_is_short : (n : ℕ) → n < 100000 → length (word n) ≤ 6
word_is_short n h = let digits = length-decimal-le 5 n (omega arith) h (omega arith) in omega arith

expression_is_short : (k : ℕ) → k < 4 → length (expression k) ≤ 31
expression_is_short zero h = omega arith
expression_is_short (suc zero) h = omega arith
expression_is_short (suc (suc zero)) h = omega arith
expression_is_short (suc (suc (suc k))) h = let three : k ≡ 0 = omega arith in subst (λ (m : ℕ). length (expression (suc (suc (suc m)))) ≤ 31) (sym three) (omega arith)

entry_is_short : (i : ℕ) → i < 100000 → length (entry_line i) ≤ 50
entry_is_short i h =
    let written = length-append (word i) (codes ": " ++ (expression (i % 4) ++ codes ";\n")) in
    let meant = length-append (expression (i % 4)) (codes ";\n") in
    let word_short = word_is_short i h in
    let expression_short = expression_is_short (i % 4) (mod_below i 4 (omega arith)) in
    omega arith

pub entries_are_short : (first n : ℕ) → first + n ≤ 100000 → length (flat_map entry_line (range_with_len first n)) ≤ 50 * n
entries_are_short first zero h = omega arith
entries_are_short first (suc n) h =
    let both = length-append (entry_line first) (flat_map entry_line (range_with_len (first + 1) n)) in
    let one = entry_is_short first (omega arith) in
    let more = entries_are_short (first + 1) n (omega arith) in
    omega arith

module _ (words : ℕ) (some : 1 ≤ words) (few : words ≤ 100000) where
  drawn_are_short : (n state : ℕ) → length (drawn_words words n state) ≤ 7 * n
  drawn_are_short zero state = omega arith
  drawn_are_short (suc n) state =
      let less = drawn_is_less words (next state) some in
      let one = word_is_short (drawn words (next state)) (omega arith) in
      let both = length-append (word (drawn words (next state))) (drawn_words words n (next state)) in
      let more = drawn_are_short n (next state) in
      omega arith

  sentence_is_short : (state : ℕ) → length (sentence_line words state) ≤ 62
  sentence_is_short state =
      let count : word_count state ≤ 8 = (let less = drawn_is_less 7 (next state) (omega arith) in omega arith) in
      let drawn_short = drawn_are_short (word_count state) (next state) in
      let both = length-append (drawn_words words (word_count state) (next state)) (codes "\n") in
      omega arith

  pub sentences_are_short : (n state : ℕ) → length (sentence_lines words n state) ≤ 62 * n
  sentences_are_short zero state = omega arith
  sentences_are_short (suc n) state =
      let both = length-append (sentence_line words state) (sentence_lines words n (behind_sentence state)) in
      let one = sentence_is_short state in
      let more = sentences_are_short n (behind_sentence state) in
      omega arith
