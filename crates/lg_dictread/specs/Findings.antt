-- What was found of the word files that were asked for.
use Rattle.std.specs.Prelude.{◌≡◌, ℕ, nat_lt, List, length, map, Option, None, Some, IfSome, if◌then◌else◌}
use Rattle.std.specs.List.{AllByRecursion}
use Rattle.lg_base.specs.Contents.{Contents, file}
use Rattle.lg_dictread.specs.Limits.{FILE}

-- what comes of asking for a file: it is not there or reading it failed, it is too long, or it has these bytes
pub data Found : Type 0 where
  not_read : Found
  too_long : Found
  has_bytes : List ℕ → Found

-- a name that was asked for, and what was found
pub record Asked : Type 0 where
  pub name : List ℕ
  pub found : Found

abbrev pub names_of : List Asked → List (List ℕ)
names_of asked = map (λ a. a.name) asked

-- what is to be found of a file with these bytes, if it is there
abbrev pub found_of : Option (List ℕ) → Found
found_of None = not_read
found_of (Some bytes) = if nat_lt FILE (length bytes) then too_long else has_bytes bytes

-- all was found as these contents have it
abbrev pub AreIn : Contents → List Asked → Type 0
AreIn contents asked = AllByRecursion (λ a. a.found ≡ found_of (file contents a.name)) asked

-- where contents are known, all was found as they have it
abbrev pub AreKnown : Option Contents → List Asked → Type 0
AreKnown known asked = IfSome known (λ contents. AreIn contents asked)
