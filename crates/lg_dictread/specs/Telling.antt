-- How a call tells its answer by what it found, and what else holds of it.
use Rattle.std.specs.Prelude.{◌≡◌, ℕ, ◌≤◌, List, [], ◌∷◌, ◌++◌, Option, Result, IfErr}
use Rattle.lg_base.specs.Contents.{Contents}
use Rattle.lg_base.specs.Faults.{Rose}
use Rattle.lg_base.specs.Files.{EndsWith}
use Rattle.lg_dictread.specs.declared.dict_error.DictError.{DictError}
use Rattle.lg_dictread.specs.declared.dict_error.DictError.TheVariants as errors
use Rattle.lg_dictread.specs.declared.dict_error.WordFileError.TheVariants.{Failed}
use Rattle.lg_dictread.specs.Findings.{Asked, not_read, names_of, AreKnown}

-- an answer by what was found: the files that are asked for, in order, and the answer
abbrev pub Determined : Type 0 → Type 1
Determined A = List Asked → A → Type 0

-- This is the answer by what was found of each file that was asked for in this call.
pub record Answers {A : Type 0} (known : Option Contents) (is : Determined A) (old new : List (List ℕ)) (answer : A) : Type 0 where
  pub asked : List Asked
  pub names : new ≡ old ++ names_of asked
  pub found : AreKnown known asked
  pub answers : is asked answer

-- A front part of the files that an answer asks for was asked for in this call.
pub record AsksFront {A : Type 0} (known : Option Contents) (is : Determined A) (old new : List (List ℕ)) : Type 0 where
  pub front : List Asked
  pub rest : List Asked
  pub answer : A
  pub names : new ≡ old ++ names_of front
  pub found : AreKnown known (front ++ rest)
  pub answers : is (front ++ rest) answer

-- What an error says: memory ran out, and this holds; a word file was not read, nothing was asked for after it, and this
-- is the answer, whatever the contents have for it; or the error is the answer.
pub data ErrorTells {A : Type 0} (Ended : Type 0) (known : Option Contents) (is : Determined A) (refuse : DictError → A) (old new : List (List ℕ)) : DictError → Type 0 where
  out_of_memory : Ended → ErrorTells Ended known is refuse old new errors.NoMemory
  file_unread : (line : ℕ) (name : List ℕ) (asked : List Asked) → Ended → new ≡ old ++ (names_of asked ++ name ∷ []) → AreKnown known asked
      → is (asked ++ record { name = name; found = not_read } ∷ []) (refuse (errors.WordFile line name Failed))
      → ErrorTells Ended known is refuse old new (errors.WordFile line name Failed)
  first_fault : (error : DictError) → Answers known is old new (refuse error) → ErrorTells Ended known is refuse old new error

-- Where memory runs out, nothing is told; any other error is.
abbrev pub UnlessMemory : (DictError → Type 0) → DictError → Type 0
UnlessMemory Told errors.NoMemory = Unit {0}
UnlessMemory Told error = Told error

-- why a call failed: a word file that was not read is the last that was asked, and the count of faults rose
abbrev pub IsCause : ℕ → ℕ → List (List ℕ) → DictError → Type 0
IsCause before now asked (errors.WordFile line name cause) = EndsWith asked name × (cause ≡ Failed → Rose before now)
IsCause before now asked _ = Unit {0}

-- the count of faults never falls, and errors of word files have their cause
pub record HasCause {T : Type 0} (before now : ℕ) (asked : List (List ℕ)) (result : Result T DictError) : Type 0 where
  pub later : before ≤ now
  pub error : IfErr result (IsCause before now asked)
