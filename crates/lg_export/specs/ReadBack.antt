-- What the text of an export stands for.
use Rattle.std.specs.Prelude.{◌≡◌, ℕ, List, [], map, None}
use Rattle.std.specs.FinMap.{from_entries}
use Rattle.std.specs.List.{flat_map}
use Rattle.lg_gram.specs.Trees.{Tree}
use Rattle.lg_dict.specs.Dictionary.{Dictionary}
use Rattle.lg_dictread.specs.Texts.{Meaning, stands, DictionaryGives}
use Rattle.lg_export.specs.Spelling.{dictionary_spelled}
use Rattle.lg_export.specs.Exports.{quoted_word}
use Rattle.lg_export.specs.Exportable.{IsExportable}

-- each word of the entries with its formula, and each macro with its formula and its level
abbrev pub words_meant : List Meaning → List (List ℕ × Tree)
words_meant entries = flat_map (λ m. map (λ word. (word, m.formula)) m.words) entries

abbrev pub macros_meant : List Meaning → List (List ℕ × (Tree × ℕ))
macros_meant entries = flat_map (λ m. map (λ name. (name, (m.formula, m.level))) m.macros) entries

-- the dictionary of entries that are read
abbrev pub dictionary_meant : List Meaning → Dictionary
dictionary_meant entries = record { words = from_entries (words_meant entries); macros = from_entries (macros_meant entries) }

-- The text of a dictionary stands for entries of the same two maps, and asks for no word file.
pub record ReadsBack (dict : Dictionary) : Type 0 where
  pub entries : List Meaning
  pub gives : DictionaryGives (dictionary_spelled dict) [] (stands entries)
  pub same : dictionary_meant entries ≡ dict

-- so does every dictionary that can be exported and has no word with a quote
abbrev pub ExportsReadBack : Type 0
ExportsReadBack = (dict : Dictionary) → IsExportable dict → quoted_word dict ≡ None → ReadsBack dict
