-- What making the edits of a script comes to.
use Rattle.std.specs.Prelude.{◌≡◌, ℕ, suc, ◌<◌, ◌≤◌, List, length, slice_get, Some}
use Rattle.lg_dict.specs.Dictionary.{Dictionary}

-- so many edits were made, and no more than asked for: this version, which is the last if fewer were made
pub record Reaches (all : List Dictionary) (most count : ℕ) (version : Dictionary) : Type 0 where
  pub few : count ≤ most
  pub reached : slice_get all count ≡ Some version
  pub last : count < most → length all ≡ suc count
