-- What is written of sessions, piece by piece.
use Rattle.std.specs.Prelude.{◌≡◌, ◌≤◌, ℕ, List}
use Rattle.std.specs.declared.result.Result.{Result}
use Rattle.std.specs.declared.result.Result.TheVariants.{Ok, Err}
use Rattle.std.specs.declared.option.Option.{Option}
use Rattle.std.specs.Io.KnownBytes.{Appends}
use Rattle.lg_base.specs.Faults.{Rose}
use Rattle.lg_base.specs.Sinks.{AppendsFront}
use Rattle.lg_run.specs.declared.outcome.Halt.{Halt}
use Rattle.lg_run.specs.declared.outcome.Halt.TheVariants.{Output}

-- the bytes are written, or a front part of them where memory runs out or the output fails
abbrev pub Writes : {T : Type 0} → Option (List ℕ) → Option (List ℕ) → List ℕ → Result T Halt → Type 0
Writes old new bytes (Ok x) = Appends old new bytes
Writes old new bytes (Err halt) = AppendsFront old new bytes

-- the output fails only where the count of its faults rose, which never falls
pub record HasHaltCause {T : Type 0} (before now : ℕ) (result : Result T Halt) : Type 0 where
  pub later : before ≤ now
  pub failed : result ≡ Err Output → Rose before now
