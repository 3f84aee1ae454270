-- The answers of a read of a whole file.
use Rattle.std.specs.Prelude.{◌≡◌, ℕ, ◌≤◌, ◌<◌, List, [], ◌∷◌, ◌++◌, length, ⊤, IsSomeAnd, IsErrOf}
use Rattle.std.specs.declared.option.Option.{Option}
use Rattle.std.specs.declared.option.Option.TheVariants.{Some}
use Rattle.std.specs.declared.result.Result.{Result}
use Rattle.std.specs.declared.result.Result.TheVariants.{Ok, Err}
use Rattle.std.specs.declared.vec.Vec.{Vec}
use Rattle.std.specs.declared.io.ErrorKind.{ErrorKind}
use Rattle.std.specs.declared.io.ErrorKind.TheVariants.{OutOfMemory}
use Rattle.lg_base.specs.declared.files.FileError.{FileError}
use Rattle.lg_base.specs.declared.files.FileError.TheVariants.{NoMemory, Failed, TooLong}
use Rattle.lg_base.specs.Faults.{raised, Rose}

-- the names asked after a call for this name: out of memory leaves them, each other answer adds the name
abbrev pub asked_after : {T : Type 0} → List (List ℕ) → List ℕ → Result T FileError → List (List ℕ)
asked_after asked name (Ok _) = asked ++ name ∷ []
asked_after asked name (Err NoMemory) = asked
asked_after asked name (Err Failed) = asked ++ name ∷ []
asked_after asked name (Err TooLong) = asked ++ name ∷ []

-- a front part of these names was asked
abbrev pub AsksWithin : List (List ℕ) → List (List ℕ) → List (List ℕ) → Type 0
AsksWithin old new names = (front : List (List ℕ)) × (rest : List (List ℕ)) × (names ≡ front ++ rest) × (new ≡ old ++ front)

-- this name was asked last
abbrev pub EndsWith : List (List ℕ) → List ℕ → Type 0
EndsWith asked name = (earlier : List (List ℕ)) × (asked ≡ earlier ++ name ∷ [])

-- the answer fits what the files have for the name: its bytes where these are at most `limit`, TooLong where they are more
abbrev pub Reads : {A : Type 0} → Option (List ℕ) → ℕ → Result (Vec ℕ A) FileError → Type 0
Reads found limit (Ok bytes) = (found ≡ Some bytes.items) × (length bytes.items ≤ limit)
Reads found limit (Err NoMemory) = ⊤
Reads found limit (Err Failed) = ⊤
Reads found limit (Err TooLong) = IsSomeAnd found (λ bytes. limit < length bytes)

-- the count of faults never falls, and Failed comes only where it rose
pub record HasReadCause {T : Type 0} (before now : ℕ) (result : Result T FileError) : Type 0 where
  pub later : before ≤ now
  pub failed : IsErrOf result Failed → Rose before now

-- the count of faults after an error, and after an answer: Failed alone raises it
abbrev pub faults_with : ℕ → FileError → ℕ
faults_with count NoMemory = count
faults_with count Failed = raised count
faults_with count TooLong = count

abbrev pub faults_after : {T : Type 0} → ℕ → Result T FileError → ℕ
faults_after count (Ok _) = count
faults_after count (Err error) = faults_with count error

-- a file that is there was opened at its start: its reader has the bytes left that the files have for the name
abbrev pub IsOpened : Option (List ℕ) → Option (List ℕ) → Type 0
IsOpened found remaining = IsSomeAnd found (λ bytes. remaining ≡ Some bytes)

-- why a file is not read where the system gives an error of this kind
abbrev pub fault_of : ErrorKind → FileError
fault_of OutOfMemory = NoMemory
fault_of _ = Failed
