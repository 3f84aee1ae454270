-- What reading to the end takes from a reader.
use Rattle.std.specs.Prelude.{◌≡◌, ℕ, List, length}
use Rattle.std.specs.declared.option.Option.{Option}
use Rattle.std.specs.Io.KnownBytes.{Consumes}

-- known bytes lose so many at their front
pub record Loses (old new : Option (List ℕ)) (count : ℕ) : Type 0 where
  pub taken : List ℕ
  pub gone : Consumes old new taken
  pub counted : length taken ≡ count
