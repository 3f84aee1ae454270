-- The journal of a document, as a reader finds it.
use Rattle.std.specs.Prelude.{◌≡◌, ℕ, List, [], ◌∷◌, length, map, codes, decimal}
use Rattle.std.specs.List.{enumerate_from, AllByRecursion}
use Rattle.lg_gram.specs.declared.reply.Place.{Place}
use Rattle.lg_text.specs.Shown.{IsPlace}
use Rattle.lg_audit.specs.Pieces.{IsNumber}
use Rattle.lg_audit.specs.Lines.{line}
use Rattle.lg_audit.specs.Documents.{edit_line}

-- the line of an edit with that number
abbrev pub edit_lines : ℕ → Place → List (List ℕ)
edit_lines n p = edit_line (n, p) ∷ []

-- so many edits
abbrev pub AreEdits : ℕ → List Place → Type 0
AreEdits count journal = (length journal ≡ count) × AllByRecursion IsPlace journal

abbrev pub all_edit_lines : List Place → List (List ℕ)
all_edit_lines journal = map edit_line (enumerate_from 1 journal)

abbrev pub IsJournal : List Place → Type 0
IsJournal journal = AllByRecursion IsPlace journal × IsNumber (length journal)

-- how many edits, and each of them
abbrev pub front_lines : List Place → List (List ℕ)
front_lines journal = line (codes "journal" ∷ decimal (length journal) ∷ []) ∷ all_edit_lines journal
