-- The keys of the search's table, each with its live alternatives.
use Rattle.std.specs.Prelude.{◌≡◌, ◌≢◌, ◌↔◌, ◌⊎◌, suc, List, [], ◌++◌, length, map}
use Rattle.std.specs.List.{Contains}
use Rattle.std.specs.Map.{keys_of}
use Rattle.lg_region.specs.declared.alternative.Alt.{Alt}
use Rattle.lg_region.specs.declared.key.Key.{Key}

-- a key without alternatives
abbrev pub dead_entry : Key → Key × List Alt
dead_entry k = (k, [])

-- those with alternatives, and then those without
abbrev pub entries_of : List (Key × List Alt) → List Key → List (Key × List Alt)
entries_of live dead = live ++ map dead_entry dead

-- the first ones have an alternative each, and are none of the second ones
pub record AreEntries (live : List (Key × List Alt)) (dead : List Key) : Type 0 where
  pub some : (k : Key) (alts : List Alt) → Contains live (k, alts) → alts ≢ []
  pub apart : (k : Key) → Contains (keys_of live) k → Contains dead k → ⊥

-- a key was added with its alternatives
pub record IsEntered (old : List (Key × List Alt)) (key : Key) (alts : List Alt) (new : List (Key × List Alt)) : Type 0 where
  pub entries : (k : Key) (a : List Alt) → Contains new (k, a) ↔ (Contains old (k, a) ⊎ ((k ≡ key) × (a ≡ alts)))
  pub longer : length new ≡ suc (length old)
