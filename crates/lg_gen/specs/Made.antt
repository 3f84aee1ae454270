-- The texts of made input.
use Rattle.std.specs.Prelude.{ℕ, zero, suc, ◌+◌, ◌*◌, ◌/◌, ◌%◌, ◌^◌, List, [], ◌++◌, codes, decimal, ◌==◌, if◌then◌else◌}
use Rattle.std.specs.List.{flat_map, range_with_len}

-- ---- the dictionary

-- the word of a number
abbrev pub word : ℕ → List ℕ
word i = codes "w" ++ decimal i

-- the expression of a word, by the remainder of its number by 4
abbrev pub expression : ℕ → List ℕ
expression remainder =
    if remainder == 0 then codes "D+"
    else (if remainder == 1 then codes "{D-} & {@M+} & (S+ or O- or J-)"
    else (if remainder == 2 then codes "S- & {O+} & {@M+}"
    else codes "M- & J+"))

abbrev pub entry_line : ℕ → List ℕ
entry_line i = word i ++ (codes ": " ++ (expression (i % 4) ++ codes ";\n"))

-- a line for each word
abbrev pub made_dictionary : ℕ → List ℕ
made_dictionary words = flat_map entry_line (range_with_len 0 words)

-- ---- the script

-- the state behind a draw
abbrev pub next : ℕ → ℕ
next state = (1664525 * state + 1013904223) % 2 ^ 32

-- the number that a draw below m gives, by the state behind it
abbrev pub drawn : ℕ → ℕ → ℕ
drawn m state = (state / 65536) % m

-- the state behind so many draws
abbrev pub after : ℕ → ℕ → ℕ
after zero state = state
after (suc n) state = after n (next state)

-- so many words, each behind a space
abbrev pub drawn_words : ℕ → ℕ → ℕ → List ℕ
drawn_words words zero state = []
drawn_words words (suc n) state = codes " " ++ (word (drawn words (next state)) ++ drawn_words words n (next state))

-- how many words a sentence has, by the state before it
abbrev pub word_count : ℕ → ℕ
word_count state = 2 + drawn 7 (next state)

-- the line of a sentence, by the state before it
abbrev pub sentence_line : ℕ → ℕ → List ℕ
sentence_line words state = codes "parse" ++ (drawn_words words (word_count state) (next state) ++ codes "\n")

-- the state behind the draws of a sentence
abbrev pub behind_sentence : ℕ → ℕ
behind_sentence state = after (word_count state) (next state)

-- a line for each sentence, from this state on
abbrev pub sentence_lines : ℕ → ℕ → ℕ → List ℕ
sentence_lines words zero state = []
sentence_lines words (suc n) state = sentence_line words state ++ sentence_lines words n (behind_sentence state)

abbrev pub made_script : ℕ → ℕ → ℕ → List ℕ
made_script seed words sentences = sentence_lines words sentences seed
