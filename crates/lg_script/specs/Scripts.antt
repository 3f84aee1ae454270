-- What a script stands for: its commands, or its first fault.
use Rattle.std.specs.Prelude.{ℕ, ◌+◌, min, List, [], ◌∷◌, map, Vec, Result, Ok, Err}
use Rattle.std.specs.Str.{IsUtf8, IsValidUpTo}
use Rattle.lg_lex.specs.Marked.{without_mark}
use Rattle.lg_script.specs.declared.command.Command.{Command}
use Rattle.lg_script.specs.declared.script_error.ScriptError.{ScriptError}
use Rattle.lg_script.specs.declared.script_error.ScriptError.TheVariants.{NoMemory, NotUtf8, UnknownCommand, BadNumber, BadEdit}
use Rattle.lg_script.specs.Lines.{AreLines, Says, IsPassedOver, IsCommand}
use Rattle.lg_script.specs.Commands.{CommandView, command_view, Fault, unknown_command, bad_number, bad_edit, CommandIs}

-- lines are numbered from 1, up to 2^32 - 1
abbrev pub LINES_COUNTED : ℕ
LINES_COUNTED = 4294967295

-- the error that tells a fault of a line
abbrev pub error_at : ℕ → Fault → ScriptError
error_at line unknown_command = UnknownCommand line
error_at line bad_number = BadNumber line
error_at line bad_edit = BadEdit line

abbrev pub Outcome : Type 0
Outcome = Result (List CommandView) ScriptError

-- with a command in front
abbrev pub with_command : CommandView → Outcome → Outcome
with_command c (Ok cs) = Ok (c ∷ cs)
with_command c (Err error) = Err error

-- the lines from the one of this number on
pub data LinesGive : ℕ → List (List ℕ) → Outcome → Type 0 where
  ended : (n : ℕ) → LinesGive n [] (Ok [])
  passed : (n : ℕ) (line body : List ℕ) (lines : List (List ℕ)) (x : Outcome) → Says line body → IsPassedOver body → LinesGive (n + 1) lines x → LinesGive n (line ∷ lines) x
  command : (n : ℕ) (line body word rest : List ℕ) (lines : List (List ℕ)) (c : CommandView) (x : Outcome) → Says line body → IsCommand body word rest → CommandIs word rest (Ok c)
      → LinesGive (n + 1) lines x → LinesGive n (line ∷ lines) (with_command c x)
  fault : (n : ℕ) (line body word rest : List ℕ) (lines : List (List ℕ)) (f : Fault) → Says line body → IsCommand body word rest → CommandIs word rest (Err f)
      → LinesGive n (line ∷ lines) (Err (error_at (min n LINES_COUNTED) f))

-- The text is first tested for UTF-8, and a byte order mark at its start is passed over.
pub data ScriptIs (bytes : List ℕ) : Outcome → Type 0 where
  not_utf8 : (n : ℕ) → IsValidUpTo bytes n → ScriptIs bytes (Err (NotUtf8 n))
  lines : (ls : List (List ℕ)) (x : Outcome) → IsUtf8 bytes → AreLines ls (without_mark bytes) → LinesGive 1 ls x → ScriptIs bytes x

-- what the reader answers, unless memory ran out
abbrev pub TellsScript : {A : Type 0} → List ℕ → Result (Vec Command A) ScriptError → Type 0
TellsScript bytes (Ok cs) = ScriptIs bytes (Ok (map command_view cs.items))
TellsScript bytes (Err NoMemory) = Unit {0}
TellsScript bytes (Err error) = ScriptIs bytes (Err error)
