-- The lines that are written to the stream of errors.
use Rattle.std.specs.Prelude.{ℕ, List, [], ◌∷◌, ◌++◌, codes}
use Rattle.std.specs.List.{flat_map}
use Rattle.std.specs.Fmt.{decimal}
use Rattle.lg_dictread.specs.declared.dict_error.DictError.{DictError}
use Rattle.lg_dictread.specs.declared.dict_error.DictError.TheVariants as errors
use Rattle.lg_dictread.specs.declared.dict_error.WordFileError.TheVariants as causes
use Rattle.lg_knowread.specs.declared.fault.KnowError.{KnowError}
use Rattle.lg_knowread.specs.declared.fault.KnowError.TheVariants as know_errors
use Rattle.lg_script.specs.declared.script_error.ScriptError.{ScriptError}
use Rattle.lg_script.specs.declared.script_error.ScriptError.TheVariants as script_errors

-- pieces one after another
abbrev pub joined : List (List ℕ) → List ℕ
joined pieces = flat_map (λ piece. piece) pieces

abbrev pub line_about : List ℕ → List ℕ → List ℕ → List ℕ
line_about front name back = front ++ (name ++ back)

abbrev pub usage_line : List ℕ
usage_line = codes "lgparse: the words are not a command of this program\n"

abbrev pub memory_line : List ℕ
memory_line = codes "lgparse: out of memory\n"

abbrev pub output_line : List ℕ
output_line = codes "lgparse: cannot write the output\n"

abbrev pub unreadable_line : List ℕ → List ℕ
unreadable_line name = line_about (codes "lgparse: cannot read ") name (codes "\n")

abbrev pub too_long_line : List ℕ → List ℕ
too_long_line name = line_about (codes "lgparse: ") name (codes " is longer than 67108864 bytes\n")

-- a file that is refused, and why
abbrev pub refusal_line : List ℕ → List (List ℕ) → List ℕ
refusal_line name why = codes "lgparse: " ++ (name ++ (codes ": " ++ (joined why ++ codes "\n")))

-- the pieces of a cause that has a line of the file
abbrev pub on_line : ℕ → List (List ℕ) → List (List ℕ)
on_line line why = codes "line " ∷ decimal line ∷ codes ": " ∷ why

abbrev pub not_utf8 : ℕ → List (List ℕ)
not_utf8 byte = codes "byte " ∷ decimal byte ∷ codes " is not UTF-8" ∷ []

abbrev pub syntax_at : ℕ → ℕ → List (List ℕ)
syntax_at line column = codes "line " ∷ decimal line ∷ codes " column " ∷ decimal column ∷ codes ": syntax" ∷ []

-- The line of each error of a dictionary of this name. A word file's own faults have the word file's name.
abbrev pub dict_line : List ℕ → DictError → List ℕ
dict_line name errors.NoMemory = memory_line
dict_line name (errors.NotUtf8 byte) = refusal_line name (not_utf8 byte)
dict_line name (errors.Syntax line column) = refusal_line name (syntax_at line column)
dict_line name (errors.UnknownMacro line macro) = refusal_line name (on_line line (codes "unknown macro " ∷ macro ∷ []))
dict_line name (errors.CostForm line) = refusal_line name (on_line line (codes "cost form" ∷ []))
dict_line name (errors.TooDeep line) = refusal_line name (on_line line (codes "too deep" ∷ []))
dict_line name (errors.TooManyNodes line count) = refusal_line name (on_line line (codes "too many nodes " ∷ decimal count ∷ []))
dict_line name (errors.TooManyChoices line count) = refusal_line name (on_line line (codes "too many choices " ∷ decimal count ∷ []))
dict_line name (errors.SideTooLong line count) = refusal_line name (on_line line (codes "too many connectors on a side " ∷ decimal count ∷ []))
dict_line name (errors.DuplicateWord word first again) = refusal_line name (word ∷ codes " is defined on lines " ∷ decimal first ∷ codes " and " ∷ decimal again ∷ [])
dict_line name (errors.WordFile line file causes.Failed) = unreadable_line file
dict_line name (errors.WordFile line file causes.TooLong) = too_long_line file
dict_line name (errors.WordFile line file (causes.NotUtf8 byte)) = refusal_line file (not_utf8 byte)

-- the line of each error of a knowledge file of this name
abbrev pub know_line : List ℕ → KnowError → List ℕ
know_line name know_errors.NoMemory = memory_line
know_line name (know_errors.NotUtf8 byte) = refusal_line name (not_utf8 byte)
know_line name (know_errors.Syntax line column) = refusal_line name (syntax_at line column)
know_line name (know_errors.UnknownSection line) = refusal_line name (on_line line (codes "unknown section" ∷ []))
know_line name (know_errors.BadPattern line) = refusal_line name (on_line line (codes "pattern" ∷ []))
know_line name (know_errors.BadType line) = refusal_line name (on_line line (codes "domain type" ∷ []))

-- and of a script
abbrev pub script_line : List ℕ → ScriptError → List ℕ
script_line name script_errors.NoMemory = memory_line
script_line name (script_errors.NotUtf8 byte) = refusal_line name (not_utf8 byte)
script_line name (script_errors.UnknownCommand line) = refusal_line name (on_line line (codes "unknown command" ∷ []))
script_line name (script_errors.BadNumber line) = refusal_line name (on_line line (codes "number" ∷ []))
script_line name (script_errors.BadEdit line) = refusal_line name (on_line line (codes "edit" ∷ []))

-- a script with which the edits become too many
abbrev pub edits_line : List ℕ → List ℕ
edits_line name = refusal_line name (codes "more than 100000 edits" ∷ [])

-- a script of which fewer edits are accepted than were asked for
abbrev pub versions_line : List ℕ → ℕ → List ℕ
versions_line name count = refusal_line name (codes "only " ∷ decimal count ∷ codes " versions" ∷ [])

-- a dictionary with a word that no text of a dictionary can write
abbrev pub quote_line : List ℕ → List ℕ → List ℕ
quote_line name word = refusal_line name (word ∷ codes " has a quote" ∷ [])
