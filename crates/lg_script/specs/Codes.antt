-- The places of published edits, by their codes in the shared history.
use Rattle.std.specs.Prelude.{◌≡◌, ℕ, ◌+◌, ◌≤◌, ◌<◌, true, List, [], length, map, sum, take, count_by, All, Some, slice_index_or}
use Rattle.lg_gram.specs.declared.reply.Place.{Place}
use Rattle.lg_edit.specs.Edits.{EditView}
use Rattle.lg_log.specs.Codes.{code_of, code_session, code_index, is_code}
use Rattle.lg_script.specs.Bounds.{IsInBounds, AreInBounds}
use Rattle.lg_script.specs.Commands.{CommandView, makes, is_edit}
use Rattle.lg_script.specs.EditNumbers.{edit_numbers, edit_counts}
use Rattle.lg_script.specs.Histories.{command_at}

-- the commands of a session, which is numbered from 0
abbrev pub commands_of : List (List CommandView) → ℕ → List CommandView
commands_of scripts session = slice_index_or scripts session []

-- the code of the edit after so many commands of a session: the edits before it are counted
abbrev pub code_after : List (List CommandView) → ℕ → ℕ → ℕ
code_after scripts session place = code_of session (count_by is_edit (take place (commands_of scripts session)))

-- the place of the edit that a code names: its session, and its command there, both from 1
abbrev pub place_of : List (List CommandView) → ℕ → Place
place_of scripts code = record {
  session = code_session code + 1;
  command = slice_index_or (edit_numbers (commands_of scripts (code_session code))) (code_index code) 0;
}

abbrev pub places_of : List (List CommandView) → List ℕ → List Place
places_of scripts codes = map (place_of scripts) codes

-- scripts that sessions may run: 1 to 64, with at most 100,000 edits together, each within its bounds
pub record AreScripts (scripts : List (List CommandView)) : Type 0 where
  pub some : 0 < length scripts
  pub few : length scripts ≤ 64
  pub edits : sum (edit_counts scripts) ≤ 100000
  pub each : All AreInBounds scripts

-- each edit of the scripts has a code, which names its place
abbrev pub EditsHavePlaces : Type 0
EditsHavePlaces = (scripts : List (List CommandView)) → AreScripts scripts → (session place : ℕ) (edit : EditView)
    → command_at scripts (record { session = session + 1; command = place + 1 }) ≡ Some (makes edit)
    → (is_code (edit_counts scripts) (code_after scripts session place) ≡ true)
    × (place_of scripts (code_after scripts session place) ≡ record { session = session + 1; command = place + 1 })

-- each command of the scripts keeps its bounds
abbrev pub CommandsKeepBounds : Type 0
CommandsKeepBounds = (scripts : List (List CommandView)) → AreScripts scripts → (p : Place) (command : CommandView) → command_at scripts p ≡ Some command → IsInBounds command
