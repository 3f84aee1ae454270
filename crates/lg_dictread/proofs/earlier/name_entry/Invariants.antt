use Rattle.std.proofs.Common.{◌≡◌, ℕ, List, take, Some, if◌then◌else◌}
use Rattle.std.specs.List.{list_any}
use Rattle.std.specs.Map.{lookup}
use Rattle.lg_dictread.specs.Definitions.{same_text}
use Rattle.lg_dictread.specs.Tables.{text_entries}
use Rattle.lg_dictread.proofs.earlier.name_entry.Given as goal

-- the macros so far have the number
abbrev pub invariant-loop-name : goal.invariant-loop-name
invariant-loop-name l = (name : List ℕ) → lookup (same_text name) (text_entries l.formulas)
    ≡ (if list_any (same_text name) (take l.name-index l.macros) then Some l.number else lookup (same_text name) (text_entries l.fn.formulas))
