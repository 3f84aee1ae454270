-- What calls that read the inputs promise.
use Rattle.std.specs.Prelude.{◌≡◌, ◌≢◌, ℕ, ◌≤◌, List, ◌++◌, Contains, ⊤}
use Rattle.std.specs.declared.result.Result.{Result}
use Rattle.std.specs.declared.result.Result.TheVariants.{Ok, Err}
use Rattle.lg_base.specs.Faults.{Rose}
use Rattle.lg_base.specs.Files.{AsksWithin, EndsWith}
use Rattle.lg_dictread.specs.declared.dict_error.DictError.{DictError}
use Rattle.lg_dictread.specs.declared.dict_error.DictError.TheVariants as errors
use Rattle.lg_knowread.specs.declared.fault.KnowError.TheVariants as know_errors
use Rattle.lg_script.specs.declared.script_error.ScriptError.TheVariants as script_errors
use Rattle.lg_script.specs.Commands.{script_views}
use Rattle.lg_run.specs.Inputs.{Found, Reading, accepted, refused, Given, OneGiven, RunGiven, GenGiven, ExportGiven, AuditGiven}
use Rattle.lg_run.specs.Lines.{unreadable_line}
use Rattle.lg_run.specs.Stops.{stop_status, stop_line}
use Rattle.lg_run.specs.declared.inputs.Inputs.{Inputs}
use Rattle.lg_run.specs.declared.inputs.Inputs.TheVariants as inputs
use Rattle.lg_run.specs.declared.status.Status.{Status}
use Rattle.lg_run.specs.declared.status.Status.TheVariants.{BadInput, ReadFault}
use Rattle.lg_run.specs.declared.stop.Stop.{Stop}
use Rattle.lg_run.specs.declared.stop.Stop.TheVariants.{Memory, Unreadable, TooLong, Dictionary, Knowledge, Script, TooManyEdits, TooFewVersions, Quoted}

-- whatever comes of the reading, no more was asked than is read for it, and in that order
abbrev pub AsksInOrder : {A : Type 0} → Reading A → List (List ℕ) → List (List ℕ) → Type 0
AsksInOrder {A} reading old new = (names : List (List ℕ)) (found : Found A) → reading names found → AsksWithin old new names

-- the names that were asked before stand in front still
pub record AsksMore (old new : List (List ℕ)) : Type 0 where
  pub names : List (List ℕ)
  pub grown : new ≡ old ++ names

-- all that is read was asked, and this comes of it
pub record Comes {A : Type 0} (reading : Reading A) (old new : List (List ℕ)) (found : Found A) : Type 0 where
  pub names : List (List ℕ)
  pub read : reading names found
  pub grown : new ≡ old ++ names

-- a stop that is a fault of the input says the line of the first text that is refused
abbrev pub TellsStop : {A : Type 0} → Reading A → List (List ℕ) → List (List ℕ) → Status → List ℕ → Type 0
TellsStop reading old new BadInput line = Comes reading old new (refused line)
TellsStop reading old new _ line = ⊤

-- a call answers what the texts stand for, or why they are not had
abbrev pub Tells : {A T : Type 0} → (T → A) → Reading A → List (List ℕ) → List (List ℕ) → Result T Stop → Type 0
Tells view reading old new (Ok value) = Comes reading old new (accepted (view value))
Tells view reading old new (Err stop) = TellsStop reading old new (stop_status stop) (stop_line stop)

-- why a stop is a read fault: the count of faults rose, and its line has the name asked last
abbrev pub IsFaultOf : List (List ℕ) → ℕ → ℕ → Status → List ℕ → Type 0
IsFaultOf asked before now ReadFault line = Rose before now × ((name : List ℕ) × EndsWith asked name × (line ≡ unreadable_line name))
IsFaultOf asked before now _ line = ⊤

abbrev pub FaultsOnlyBy : {T : Type 0} → List (List ℕ) → ℕ → ℕ → Result T Stop → Type 0
FaultsOnlyBy asked before now (Ok value) = ⊤
FaultsOnlyBy asked before now (Err stop) = IsFaultOf asked before now (stop_status stop) (stop_line stop)

-- an error of a word file is one of the file that was asked last
abbrev pub IsOfLast : List (List ℕ) → DictError → Type 0
IsOfLast asked (errors.WordFile line file cause) = EndsWith asked file
IsOfLast asked _ = ⊤

-- the text that is refused is a file with one of these names, or a word file of it, and its error is not that memory ran out
abbrev pub IsAbout : List (List ℕ) → List (List ℕ) → Stop → Type 0
IsAbout names asked Memory = ⊤
IsAbout names asked (Unreadable name) = ⊤
IsAbout names asked (TooLong name) = Contains names name.now
IsAbout names asked (Dictionary name error) = Contains names name.now × (error ≢ errors.NoMemory) × IsOfLast asked error
IsAbout names asked (Knowledge name error) = Contains names name.now × (error ≢ know_errors.NoMemory)
IsAbout names asked (Script name error) = Contains names name.now × (error ≢ script_errors.NoMemory)
IsAbout names asked (TooManyEdits name) = Contains names name.now
IsAbout names asked (TooFewVersions name count) = Contains names name.now
IsAbout names asked (Quoted name word) = Contains names name.now

-- an answer that is no read fault
abbrev pub IsNoFaultOf : Status → Type 0
IsNoFaultOf ReadFault = ⊥
IsNoFaultOf _ = ⊤

abbrev pub IsNoFault : {T : Type 0} → Result T Stop → Type 0
IsNoFault (Ok value) = ⊤
IsNoFault (Err stop) = IsNoFaultOf (stop_status stop)

-- the count of faults never falls, and a read fault has its cause
pub record HasCause {T : Type 0} (asked : List (List ℕ)) (before now : ℕ) (result : Result T Stop) : Type 0 where
  pub later : before ≤ now
  pub fault : FaultsOnlyBy asked before now result

-- what contracts see of the inputs of a command
abbrev pub given_in : Inputs → Given
given_in (inputs.One setup dict sentence) = OneGiven setup dict sentence.now
given_in (inputs.Run setup dict know scripts) = RunGiven setup dict know (script_views scripts)
given_in (inputs.Gen seed words sentences) = GenGiven seed words sentences
given_in (inputs.Export text) = ExportGiven text.items
given_in (inputs.Audit dict know scripts document) = AuditGiven dict know (script_views scripts) document.items
