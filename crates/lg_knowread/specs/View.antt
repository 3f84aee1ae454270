-- What the reader tells of what its definitions say.
use Rattle.std.specs.Prelude.{◌≡◌, List, ℕ, Result, Ok, Err}
use Rattle.lg_lex.specs.declared.location.Location.{Location}
use Rattle.lg_lex.specs.Spots.{location_left}
use Rattle.lg_knowread.specs.declared.fault.Fault.{Fault}
use Rattle.lg_knowread.specs.declared.fault.Refusal as refusal
use Rattle.lg_knowread.specs.declared.fault.Refusal.TheVariants as refusals
use Rattle.lg_knowread.specs.declared.fault.KnowError.{KnowError}
use Rattle.lg_knowread.specs.declared.fault.KnowError.TheVariants.{NoMemory}
use Rattle.lg_knowread.specs.declared.knowledge.Knowledge.{Knowledge}
use Rattle.lg_knowread.specs.Reading.{error_at}
use Rattle.lg_knowread.specs.Automaton.{Answer, read, stopped}

-- the result is as defined, unless memory ran out
abbrev pub Gives : {A : Type 0} → Result A refusal.Refusal → Result A Fault → Type 0
Gives (Ok x) defined = defined ≡ Ok x
Gives (Err refusals.NoMemory) defined = Unit {0}
Gives (Err (refusals.Fault fault)) defined = defined ≡ Err fault

-- the error tells the refusal of a token at this location
abbrev pub TellsRefusal : refusal.Refusal → Location → KnowError → Type 0
TellsRefusal refusals.NoMemory p error = error ≡ NoMemory
TellsRefusal (refusals.Fault fault) p error = error ≡ error_at fault p

-- the result that an answer of a text's tokens leads to
abbrev pub result_of : List ℕ → Answer → Result Knowledge KnowError
result_of text (read k) = Ok k
result_of text (stopped fault left) = Err (error_at fault (location_left text left))

-- what the reader answers, unless memory ran out
abbrev pub TellsAnswer : List ℕ → Answer → Result Knowledge KnowError → Type 0
TellsAnswer text a (Err NoMemory) = Unit {0}
TellsAnswer text a x = x ≡ result_of text a
