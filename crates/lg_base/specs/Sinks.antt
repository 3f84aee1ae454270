-- What a sink does with a piece of bytes.
use Rattle.std.specs.Prelude.{ℕ, ◌≤◌, List, take, OnErr}
use Rattle.std.specs.declared.option.Option.{Option}
use Rattle.std.specs.declared.result.Result.{Result}
use Rattle.std.specs.Io.KnownBytes.{Appends}
use Rattle.lg_base.specs.Faults.{Rose}

-- known bytes grow by a front part of these
pub record AppendsFront (old new : Option (List ℕ)) (bytes : List ℕ) : Type 0 where
  pub count : ℕ
  pub grown : Appends old new (take count bytes)

-- the count of faults never falls, and an Err comes only where it rose
pub record HasWriteCause {T E : Type 0} (before now : ℕ) (result : Result T E) : Type 0 where
  pub later : before ≤ now
  pub failed : OnErr result (Rose before now)
