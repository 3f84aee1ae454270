-- The status and the line of inputs that are not had.
use Rattle.std.specs.Prelude.{◌≡◌, ◌⊎◌, ℕ, Bool, true, false, if◌then◌else◌, List, Vec, Result, Ok, Err}
use Rattle.lg_base.specs.declared.memory.NoMemory.{NoMemory as OutOfMemory}
use Rattle.std.specs.declared.option.Option.{Option}
use Rattle.std.specs.Io.KnownBytes.{Appends}
use Rattle.lg_base.specs.Sinks.{AppendsFront}
use Rattle.lg_dictread.specs.declared.dict_error.DictError.{DictError}
use Rattle.lg_dictread.specs.declared.dict_error.DictError.TheVariants as errors
use Rattle.lg_dictread.specs.declared.dict_error.WordFileError.TheVariants as causes
use Rattle.lg_run.specs.Lines.{memory_line, unreadable_line, too_long_line, dict_line, know_line, script_line, edits_line, versions_line, quote_line}
use Rattle.lg_run.specs.declared.status.Status.{Status}
use Rattle.lg_run.specs.declared.status.Status.TheVariants.{BadInput, ReadFault, NoMemory}
use Rattle.lg_run.specs.declared.stop.Stop.{Stop}
use Rattle.lg_run.specs.declared.stop.Stop.TheVariants.{Memory, Unreadable, TooLong, Dictionary, Knowledge, Script, TooManyEdits, TooFewVersions, Quoted}

-- a word file cannot be read
abbrev pub is_unread : DictError → Bool
is_unread (errors.WordFile line file causes.Failed) = true
is_unread _ = false

-- a word file that cannot be read is a read fault, and each other error is one of the text
abbrev pub dict_status : DictError → Status
dict_status error = if is_unread error then ReadFault else BadInput

abbrev pub stop_status : Stop → Status
stop_status Memory = NoMemory
stop_status (Unreadable name) = ReadFault
stop_status (TooLong name) = BadInput
stop_status (Dictionary name error) = dict_status error
stop_status (Knowledge name error) = BadInput
stop_status (Script name error) = BadInput
stop_status (TooManyEdits name) = BadInput
stop_status (TooFewVersions name count) = BadInput
stop_status (Quoted name word) = BadInput

abbrev pub stop_line : Stop → List ℕ
stop_line Memory = memory_line
stop_line (Unreadable name) = unreadable_line name.now
stop_line (TooLong name) = too_long_line name.now
stop_line (Dictionary name error) = dict_line name.now error
stop_line (Knowledge name error) = know_line name.now error
stop_line (Script name error) = script_line name.now error
stop_line (TooManyEdits name) = edits_line name.now
stop_line (TooFewVersions name count) = versions_line name.now count
stop_line (Quoted name word) = quote_line name.now word

-- the status with its line, of which a front part was written, and where this is so all of it
pub record SaysOf (status wanted : Status) (so : Type 0) (old new : Option (List ℕ)) (line : List ℕ) : Type 0 where
  pub same : status ≡ wanted
  pub written : so → Appends old new line
  pub front : AppendsFront old new line

-- the status with its line, where there is memory for the line
abbrev pub EndsWithLine : {A : Type 0} → Status → Status → Result (Vec ℕ A) OutOfMemory → Type 0 → Option (List ℕ) → Option (List ℕ) → Type 0
EndsWithLine status wanted (Ok line) so old new = SaysOf status wanted so old new line.items
EndsWithLine status wanted (Err e) so old new = SaysOf status NoMemory so old new memory_line

-- a stop ends with its status and its line, unless there is no memory for the line
abbrev pub EndsAs : Stop → Status → Type 0 → Option (List ℕ) → Option (List ℕ) → Type 0
EndsAs stop status so old new = SaysOf status (stop_status stop) so old new (stop_line stop) ⊎ SaysOf status NoMemory so old new memory_line
