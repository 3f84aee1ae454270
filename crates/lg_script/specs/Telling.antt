-- What the reader's functions tell of a command and of a line, unless memory ran out.
use Rattle.std.specs.Prelude.{◌≡◌, ℕ, List, ◌++◌, Option, Some, None, map, Vec, Result, Ok, Err}
use Rattle.std.specs.Option.{option_to_list}
use Rattle.lg_dictread.specs.declared.entry_text.EntryError.{EntryError}
use Rattle.lg_dictread.specs.declared.entry_text.EntryError.TheVariants as entry_errors
use Rattle.lg_script.specs.declared.command.Command.{Command}
use Rattle.lg_script.specs.declared.script_error.ScriptError.{ScriptError}
use Rattle.lg_script.specs.declared.script_error.ScriptError.TheVariants.{NoMemory, NotUtf8, UnknownCommand, BadNumber, BadEdit}
use Rattle.lg_script.specs.Lines.{AreLines, Says, IsPassedOver, IsCommand}
use Rattle.lg_script.specs.Scripts.{Outcome, LinesGive}
use Rattle.lg_script.specs.Commands.{CommandView, command_view, Fault, unknown_command, bad_number, bad_edit, CommandIs}

-- a fault on this line
abbrev pub TellsFault : ℕ → (Fault → Type 0) → ScriptError → Type 0
TellsFault line Has NoMemory = Unit {0}
TellsFault line Has (NotUtf8 n) = ⊥
TellsFault line Has (UnknownCommand l) = (l ≡ line) × Has unknown_command
TellsFault line Has (BadNumber l) = (l ≡ line) × Has bad_number
TellsFault line Has (BadEdit l) = (l ≡ line) × Has bad_edit

-- a command by its word and its rest
abbrev pub TellsCommand : ℕ → List ℕ → List ℕ → Result Command ScriptError → Type 0
TellsCommand line word rest (Ok c) = CommandIs word rest (Ok (command_view c))
TellsCommand line word rest (Err error) = TellsFault line (λ f. CommandIs word rest (Err f)) error

-- a line with a command or this fault
pub record LineIs (text : List ℕ) (x : Result CommandView Fault) : Type 0 where
  pub body : List ℕ
  pub word : List ℕ
  pub rest : List ℕ
  pub says : Says text body
  pub command : IsCommand body word rest
  pub is : CommandIs word rest x

abbrev pub TellsLine : ℕ → List ℕ → Result (Option Command) ScriptError → Type 0
TellsLine line text (Ok None) = (body : List ℕ) × Says text body × IsPassedOver body
TellsLine line text (Ok (Some c)) = LineIs text (Ok (command_view c))
TellsLine line text (Err error) = TellsFault line (λ f. LineIs text (Err f)) error

-- the command of a line, if there is one, behind those of the lines before
abbrev pub AddsLine : {T : Type 0} → ℕ → List ℕ → List Command → List Command → Result T ScriptError → Type 0
AddsLine line text old new (Ok x) = (c : Option Command) × (new ≡ old ++ option_to_list c) × TellsLine line text (Ok c)
AddsLine line text old new (Err error) = TellsFault line (λ f. LineIs text (Err f)) error

-- what an edit's text that is no entry comes to
abbrev pub IsRefusal : ℕ → EntryError → ScriptError → Type 0
IsRefusal line entry_errors.NoMemory error = error ≡ NoMemory
IsRefusal line fault error = error ≡ BadEdit line

-- the commands of a text without a mark
abbrev pub GivesText : ℕ → List ℕ → Outcome → Type 0
GivesText n text x = (ls : List (List ℕ)) × AreLines ls text × LinesGive n ls x

abbrev pub TellsText : {A : Type 0} → List ℕ → Result (Vec Command A) ScriptError → Type 0
TellsText text (Ok cs) = GivesText 1 text (Ok (map command_view cs.items))
TellsText text (Err NoMemory) = Unit {0}
TellsText text (Err (NotUtf8 n)) = ⊥
TellsText text (Err error) = GivesText 1 text (Err error)
