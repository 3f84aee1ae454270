-- What an export answers.
use Rattle.std.specs.Prelude.{◌≡◌, ℕ, List, [], Bool, ◌==◌, Option, Some, None, Result, Ok, Err}
use Rattle.std.specs.declared.vec.Vec.{Vec}
use Rattle.std.specs.FinMap.{get, keys}
use Rattle.std.specs.List.{list_any, find}
use Rattle.std.specs.Option.{option_map_or}
use Rattle.lg_dict.specs.Dictionary.{Dictionary}
use Rattle.lg_export.specs.declared.text.ExportError.{ExportError}
use Rattle.lg_export.specs.declared.text.ExportError.TheVariants.{NoMemory, QuoteInWord}
use Rattle.lg_export.specs.Spelling.{macro_line, word_line}

-- the byte 34 is among its bytes
abbrev pub has_quote : List ℕ → Bool
has_quote word = list_any (λ b. b == 34) word

-- the first word, by bytes, that has a quote in it
abbrev pub quoted_word : Dictionary → Option (List ℕ)
quoted_word dict = find has_quote (keys dict.words)

-- A text comes if no word has a quote; a word is told if it is the first that has one; memory may always run out.
abbrev pub TellsQuote : {A : Type 0} → Dictionary → Result (Vec ℕ A) ExportError → Type 0
TellsQuote dict (Ok text) = quoted_word dict ≡ None
TellsQuote dict (Err (QuoteInWord word)) = quoted_word dict ≡ Some word
TellsQuote dict (Err NoMemory) = Unit {0}

-- the line of a word, if it is one
abbrev pub line_of_word : Dictionary → List ℕ → List ℕ
line_of_word dict word = option_map_or (λ t. word_line (word, t)) (get dict.words word) []

-- the line of a macro, if it is one
abbrev pub line_of_macro : Dictionary → List ℕ → List ℕ
line_of_macro dict name = option_map_or (λ m. macro_line (name, m)) (get dict.macros name) []
