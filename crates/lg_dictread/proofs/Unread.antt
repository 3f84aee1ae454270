-- A word file that gives no words.
use Rattle.std.proofs.Common.{◌≡◌, ℕ, ◌+◌, ◌-◌, ◌^◌, ◌<◌, ◌≤◌, min, List, [], ◌∷◌, ◌++◌, length, Option, None, Some, IfSome, IsSomeAnd, sym, ap, subst, ◌∙◌, arith}
use Rattle.lg_base.specs.Faults.{Rose}
use Rattle.lg_dictread.specs.declared.dict_error.DictError.{DictError}
use Rattle.lg_dictread.specs.declared.dict_error.DictError.TheVariants.{WordFile}
use Rattle.lg_dictread.specs.declared.dict_error.DictError.TheVariants as errors
use Rattle.lg_dictread.specs.declared.dict_error.WordFileError.{WordFileError}
use Rattle.lg_dictread.specs.declared.dict_error.WordFileError.TheVariants.{Failed}
use Rattle.lg_base.specs.Contents.{Contents, file}
use Rattle.lg_dictread.specs.Findings.{Found, too_long, has_bytes, AreKnown}
use Rattle.lg_dictread.specs.Definitions.{FileGives, fails}
use Rattle.lg_dictread.specs.Limits.{FILE}
use Rattle.lg_dictread.specs.Defining.{IsFinding, IsUnread}
use Rattle.lg_dictread.specs.Telling.{UnlessMemory, IsCause}
use Rattle.lg_dictread.proofs.Found.{found_bytes, found_long}
use Rattle.lg_dictread.proofs.ErrorMaps.{memory_out, memory_map}

-- the error tells what the file gives
pub unread_told : (known : Option Contents) (line : ℕ) (name : List ℕ) (cause : WordFileError) (found : Found) (error : DictError) → FileGives found (fails cause) → IsFinding known name found cause → UnlessMemory (λ e. e ≡ WordFile line name cause) error
    → UnlessMemory (IsUnread known line name) error
unread_told known line name cause found error gives finding h = memory_map (λ e. e ≡ WordFile line name cause) (IsUnread known line name) (λ e is. (cause, found, is, gives, finding)) error h

-- and has its cause
pub unread_cause : (before now line : ℕ) (old asked : List (List ℕ)) (name : List ℕ) (cause : WordFileError) (error : DictError) → asked ≡ old ++ name ∷ [] → (cause ≡ Failed → Rose before now)
    → UnlessMemory (λ e. e ≡ WordFile line name cause) error → IsCause before now asked error
unread_cause before now line old asked name cause error is rose h =
    memory_out (λ e. e ≡ WordFile line name cause) (IsCause before now asked) tt (λ e same. subst (IsCause before now asked) (sym same) ((old, is), rose)) error h

-- a file that is longer than the limit
pub long_known : (known : Option Contents) (name path : List ℕ) → path ≡ name → IfSome known (λ contents. IsSomeAnd (file contents path) (λ bytes. FILE < length bytes)) → AreKnown known (record { name = name; found = too_long } ∷ [])
long_known None name path same h = tt
long_known (Some contents) name path same h = (found_long (file contents name) (subst (λ (n : List ℕ). IsSomeAnd (file contents n) (λ bytes. FILE < length bytes)) same h), tt)

-- the bytes of a file
pub bytes_known : (known : Option Contents) (name path bytes : List ℕ) → path ≡ name → IfSome known (λ contents. (file contents path ≡ Some bytes) × (length bytes ≤ FILE)) → AreKnown known (record { name = name; found = has_bytes bytes } ∷ [])
bytes_known None name path bytes same h = tt
bytes_known (Some contents) name path bytes same h = (found_bytes (file contents name) bytes (ap (file contents) (sym same) ∙ h.0) h.1, tt)

-- ---- the cause of an error

rose_since : (start before now top : ℕ) → start ≤ before → min (before + 1) top ≤ now → min (start + 1) top ≤ now
rose_since start before now top h k = omega arith

-- what rose since then rose since before it
pub cause_since : (start before now : ℕ) (asked : List (List ℕ)) (error : DictError) → start ≤ before → IsCause before now asked error → IsCause start now asked error
cause_since start before now asked (errors.WordFile line name cause) h k = (k.0, λ failed. rose_since start before now (2 ^ 64 - 1) h (k.1 failed))
cause_since start before now asked errors.NoMemory h k = tt
cause_since start before now asked (errors.NotUtf8 n) h k = tt
cause_since start before now asked (errors.Syntax l c) h k = tt
cause_since start before now asked (errors.UnknownMacro l m) h k = tt
cause_since start before now asked (errors.CostForm l) h k = tt
cause_since start before now asked (errors.TooDeep l) h k = tt
cause_since start before now asked (errors.TooManyNodes l n) h k = tt
cause_since start before now asked (errors.TooManyChoices l n) h k = tt
cause_since start before now asked (errors.SideTooLong l n) h k = tt
cause_since start before now asked (errors.DuplicateWord w l m) h k = tt
