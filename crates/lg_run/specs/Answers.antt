-- What each status says of a run.
use Rattle.std.specs.Prelude.{◌≡◌, ◌≢◌, ℕ, ◌≤◌, ◌<◌, ◌^◌, List, [], ◌∷◌, length, Contains, ⊤, ◌⊎◌, IfSome, Result, Ok, Err}
use Rattle.std.specs.declared.option.Option.{Option}
use Rattle.std.specs.Io.KnownBytes.{Appends, Keeps}
use Rattle.lg_base.specs.Contents.{Contents}
use Rattle.lg_base.specs.Faults.{Rose}
use Rattle.lg_base.specs.Files.{EndsWith}
use Rattle.lg_base.specs.Sinks.{AppendsFront}
use Rattle.lg_dictread.specs.declared.dict_error.DictError.{DictError}
use Rattle.lg_dictread.specs.declared.dict_error.DictError.TheVariants as errors
use Rattle.lg_knowread.specs.declared.fault.KnowError.{KnowError}
use Rattle.lg_knowread.specs.declared.fault.KnowError.TheVariants as know_errors
use Rattle.lg_script.specs.declared.script_error.ScriptError.{ScriptError}
use Rattle.lg_script.specs.declared.script_error.ScriptError.TheVariants as script_errors
use Rattle.lg_script.specs.Codes.{AreScripts}
use Rattle.lg_run.specs.Words.{Task, One, Run, Gen, Export, Audit, TaskIs, SENTENCE, AreInRange}
use Rattle.lg_run.specs.Inputs.{Reading, accepted, refused, Given, OneGiven, RunGiven, GenGiven, ExportGiven, AuditGiven, InputsAre}
use Rattle.lg_run.specs.Reads.{Comes, IsOfLast}
use Rattle.lg_gen.specs.Accepted.{IsMade}
use Rattle.lg_run.specs.Documents.{DocumentIs, IsOutcome}
use Rattle.lg_run.specs.Audits.{IsAuditLine}
use Rattle.lg_run.specs.MadeRuns.{IsMadeDocument}
use Rattle.lg_run.specs.Lines.{usage_line, memory_line, output_line, unreadable_line, too_long_line, dict_line, know_line, script_line, edits_line, versions_line, quote_line}
use Rattle.lg_run.specs.Stops.{dict_status}
use Rattle.lg_run.specs.declared.outcome.Halt.{Halt}
use Rattle.lg_run.specs.declared.outcome.Halt.TheVariants.{Memory, Output}
use Rattle.lg_run.specs.declared.status.Status.{Status}
use Rattle.lg_run.specs.declared.status.Status.TheVariants.{Done, BadInput, Usage, ReadFault, WriteFault, NoMemory}

-- where the files tell what they hold and the words are in form, this holds of the inputs
abbrev pub WhereTold : Option Contents → List (List ℕ) → (Reading Given → Type 0) → Type 0
WhereTold contents words Holds = IfSome contents (λ known. (task : Task) → TaskIs words task → Holds (InputsAre known task))

-- the words are not in form
abbrev pub IsNoTask : List (List ℕ) → Type 0
IsNoTask words = (task : Task) → TaskIs words task → ⊥

-- nothing is written where the words are not in form, a text is refused, or a file cannot be read
abbrev pub Unwritten : Status → Option (List ℕ) → Option (List ℕ) → Type 0
Unwritten Done old new = ⊤
Unwritten WriteFault old new = ⊤
Unwritten NoMemory old new = ⊤
Unwritten BadInput old new = Keeps old new
Unwritten Usage old new = Keeps old new
Unwritten ReadFault old new = Keeps old new

-- ReadFault comes only where the count of the files' faults rose, WriteFault only where that of the output did
abbrev pub Caused : Status → ℕ → ℕ → ℕ → ℕ → Type 0
Caused ReadFault files_before files_now out_before out_now = Rose files_before files_now
Caused WriteFault files_before files_now out_before out_now = Rose out_before out_now
Caused Done files_before files_now out_before out_now = ⊤
Caused BadInput files_before files_now out_before out_now = ⊤
Caused Usage files_before files_now out_before out_now = ⊤
Caused NoMemory files_before files_now out_before out_now = ⊤

-- the document of a command
abbrev pub IsDocument : Given → List ℕ → Type 0
IsDocument (OneGiven setup dict sentence) document = DocumentIs setup dict sentence document
IsDocument (RunGiven setup dict know scripts) document = IsOutcome setup dict know scripts document
IsDocument (GenGiven seed words sentences) document = IsMadeDocument seed words sentences document
IsDocument (ExportGiven text) document = document ≡ text
IsDocument (AuditGiven dict know scripts bytes) document = IsAuditLine (record { base = dict; know = know; scripts = scripts }) bytes document

-- all inputs were accepted, and their document was written
pub record WritesDocument (inputs : Reading Given) (asked_old asked_new : List (List ℕ)) (old new : Option (List ℕ)) : Type 0 where
  pub given : Given
  pub read : Comes inputs asked_old asked_new (accepted given)
  pub document : List ℕ
  pub is : IsDocument given document
  pub grown : Appends old new document

-- all inputs were accepted, and a front part of their document was written
pub record WritesFront (inputs : Reading Given) (asked_old asked_new : List (List ℕ)) (old new : Option (List ℕ)) : Type 0 where
  pub given : Given
  pub read : Comes inputs asked_old asked_new (accepted given)
  pub document : List ℕ
  pub is : IsDocument given document
  pub grown : AppendsFront old new document

-- what a status says of the inputs and of the output
abbrev pub Told : Reading Given → List (List ℕ) → List (List ℕ) → Option (List ℕ) → Option (List ℕ) → Status → Type 0
Told inputs asked_old asked_new old new Done = WritesDocument inputs asked_old asked_new old new
Told inputs asked_old asked_new old new WriteFault = WritesFront inputs asked_old asked_new old new
Told inputs asked_old asked_new old new BadInput = (line : List ℕ) × Comes inputs asked_old asked_new (refused line)
Told inputs asked_old asked_new old new Usage = ⊥
Told inputs asked_old asked_new old new ReadFault = ⊤
Told inputs asked_old asked_new old new NoMemory = Keeps old new ⊎ WritesFront inputs asked_old asked_new old new

-- a text that is refused is told, but where a file cannot be read or memory runs out
abbrev pub AnswersRefused : Reading Given → Type 0 → Status → Type 0
AnswersRefused inputs all_read status = (names : List (List ℕ)) (line : List ℕ) → inputs names (refused line) → all_read → (status ≡ BadInput) ⊎ (status ≡ NoMemory)

-- inputs that are accepted are answered, but where a file cannot be read, the output cannot be written, or memory runs out
abbrev pub AnswersAccepted : Reading Given → Type 0 → Type 0 → Status → Type 0
AnswersAccepted inputs all_read all_written status =
    (names : List (List ℕ)) (given : Given) → inputs names (accepted given) → all_read → all_written → (status ≡ Done) ⊎ (status ≡ NoMemory)

-- the files that the words of a task name
abbrev pub names_of : Task → List (List ℕ)
names_of (One setup dictionary sentence) = dictionary ∷ []
names_of (Run setup dictionary knowledge scripts) = dictionary ∷ knowledge ∷ scripts
names_of (Gen seed words sentences) = []
names_of (Export dictionary script n) = dictionary ∷ script ∷ []
names_of (Audit dictionary knowledge document scripts) = dictionary ∷ knowledge ∷ document ∷ scripts

-- what is said of a text that is refused: of a file with one of these names, or of the word file that was asked last
pub data IsRefusal (names asked : List (List ℕ)) : List ℕ → Type 0 where
  too_long : (name : List ℕ) → Contains names name → IsRefusal names asked (too_long_line name)
  dictionary : (name : List ℕ) (error : DictError) → Contains names name → IsOfLast asked error → error ≢ errors.NoMemory → dict_status error ≡ BadInput → IsRefusal names asked (dict_line name error)
  knowledge : (name : List ℕ) (error : KnowError) → Contains names name → error ≢ know_errors.NoMemory → IsRefusal names asked (know_line name error)
  script : (name : List ℕ) (error : ScriptError) → Contains names name → error ≢ script_errors.NoMemory → IsRefusal names asked (script_line name error)
  too_many_edits : (name : List ℕ) → Contains names name → IsRefusal names asked (edits_line name)
  too_few_versions : (name : List ℕ) (count : ℕ) → Contains names name → IsRefusal names asked (versions_line name count)
  quoted : (name word : List ℕ) → Contains names name → IsRefusal names asked (quote_line name word)

-- The line of a status, by the names asked. BadInput has the line of a text that is refused, and where the files tell what they
-- hold it is the first.
abbrev pub HasLine : Option Contents → List (List ℕ) → List (List ℕ) → List (List ℕ) → Status → List ℕ → Type 0
HasLine contents words old new Done line = line ≡ []
HasLine contents words old new BadInput line = ((task : Task) → TaskIs words task → IsRefusal (names_of task) new line) × WhereTold contents words (λ inputs. Comes inputs old new (refused line))
HasLine contents words old new Usage line = line ≡ usage_line
HasLine contents words old new ReadFault line = (name : List ℕ) × EndsWith new name × (line ≡ unreadable_line name)
HasLine contents words old new WriteFault line = line ≡ output_line
HasLine contents words old new NoMemory line = line ≡ memory_line

-- the line of the status was written, and nothing else
pub record WritesLine (contents : Option Contents) (words asked_old asked_new : List (List ℕ)) (status : Status) (old new : Option (List ℕ)) : Type 0 where
  pub line : List ℕ
  pub fits : HasLine contents words asked_old asked_new status line
  pub grown : Appends old new line

-- a front part of the line of the status was written, and nothing else
pub record WritesLineFront (contents : Option Contents) (words asked_old asked_new : List (List ℕ)) (status : Status) (old new : Option (List ℕ)) : Type 0 where
  pub line : List ℕ
  pub fits : HasLine contents words asked_old asked_new status line
  pub grown : AppendsFront old new line

-- how a command ends that has its inputs in hand
abbrev pub Finishes : Given → Status → Option (List ℕ) → Option (List ℕ) → Type 0
Finishes given Done old new = (document : List ℕ) × IsDocument given document × Appends old new document
Finishes given WriteFault old new = (document : List ℕ) × IsDocument given document × AppendsFront old new document
Finishes given NoMemory old new = Keeps old new ⊎ ((document : List ℕ) × IsDocument given document × AppendsFront old new document)
Finishes given BadInput old new = ⊥
Finishes given Usage old new = ⊥
Finishes given ReadFault old new = ⊥

-- what is written of a command that has its inputs in hand: its document, or a front part of it where the output fails; where
-- memory runs out nothing, or a front part of it
abbrev pub Documents : {T : Type 0} → Given → Option (List ℕ) → Option (List ℕ) → Result T Halt → Type 0
Documents given old new (Ok x) = (document : List ℕ) × IsDocument given document × Appends old new document
Documents given old new (Err Output) = (document : List ℕ) × IsDocument given document × AppendsFront old new document
Documents given old new (Err Memory) = Keeps old new ⊎ ((document : List ℕ) × IsDocument given document × AppendsFront old new document)

-- and its line
abbrev pub last_line : Status → List ℕ
last_line WriteFault = output_line
last_line NoMemory = memory_line
last_line _ = []

-- how a command may end whose inputs are not had
abbrev pub IsStopped : Status → Type 0
IsStopped BadInput = ⊤
IsStopped ReadFault = ⊤
IsStopped NoMemory = ⊤
IsStopped Done = ⊥
IsStopped Usage = ⊥
IsStopped WriteFault = ⊥

-- the limits that words and texts keep to: a sentence's length, the number of rules, and those of the scripts' commands
abbrev pub IsGivenInBounds : Given → Type 0
IsGivenInBounds (OneGiven setup dict sentence) = AreInRange setup × (length sentence ≤ SENTENCE)
IsGivenInBounds (RunGiven setup dict know scripts) = AreInRange setup × (length know.rules < 2 ^ 32) × AreScripts scripts
IsGivenInBounds (GenGiven seed words sentences) = (seed < 2 ^ 32) × IsMade words × IsMade sentences
IsGivenInBounds (ExportGiven text) = ⊤
IsGivenInBounds (AuditGiven dict know scripts bytes) = (length know.rules < 2 ^ 32) × AreScripts scripts
