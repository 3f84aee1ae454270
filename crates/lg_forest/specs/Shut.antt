-- Openings at whose words before an end nothing starts.
use Rattle.std.specs.Prelude.{ℕ, ◌≤◌, List}
use Rattle.std.specs.List.{Contains}
use Rattle.lg_region.specs.declared.opening.Origin.{Origin}
use Rattle.lg_forest.specs.declared.openings.Opening.{Opening}
use Rattle.lg_forest.specs.declared.openings.Start.{Start}

-- all words before the end were looked at, and no start stands there
pub record IsShut (end : ℕ) (o : Opening) : Type 0 where
  pub done : end ≤ o.done
  pub none : (s : Start) → Contains o.starts.items s → end ≤ s.group.word

-- the same of the opening of this origin
abbrev pub IsShutIn : List (Origin × Opening) → Origin → ℕ → Type 0
IsShutIn openings origin end = (o : Opening) × Contains openings (origin, o) × IsShut end o
