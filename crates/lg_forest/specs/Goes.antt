-- How the search goes on.
use Rattle.std.specs.Prelude.{ℕ, ◌+◌, ◌-◌, ◌≤◌, length}
use Rattle.lg_region.specs.Fronts.{Numbering}
use Rattle.lg_region.specs.Keys.{IsValidKey}
use Rattle.lg_region.specs.Openings.{IsGapOf}
use Rattle.lg_region.specs.declared.group.Gap.{Gap}
use Rattle.lg_region.specs.declared.key.Key.{Key}
use Rattle.lg_region.specs.declared.key.Key.TheVariants.{Region as Between}
use Rattle.lg_forest.specs.Opened.{IsLeft, IsMemory}
use Rattle.lg_forest.specs.Search.{Asked, HasRoom, IsCounted, IsTable, KeysAreDecided}
use Rattle.lg_forest.specs.declared.search.Search.{Search}

-- The search may be asked for keys that are narrower than a width: keys are decided by their alternatives, its table and its memory are right, and
-- there is room to count the steps.
pub record IsReady (n : Numbering) (width : ℕ) (state : Search) (steps : ℕ) : Type 0 where
  pub decided : KeysAreDecided n
  pub table : IsTable n state.table
  pub known : IsMemory n state.table state.memory
  pub room : HasRoom width steps state.table

-- The search went on, from one state and count of steps to another: the keys of a kind were asked for, its memory is still right, and each new key is a
-- step, where its alternatives were not known; so many steps were counted for keys that are still to be added.
pub record Goes (n : Numbering) (Kind : Key → Type 0) (more : ℕ) (old : Search) (before : ℕ) (new : Search) (after : ℕ) : Type 0 where
  pub asked : Asked n Kind old.table new.table
  pub left : IsLeft n new.table old.memory new.memory
  pub steps : IsCounted more (before + length new.memory.known) old.table (after + length old.memory.known) new.table
  pub later : before ≤ after

-- the key of a region, and from end to end
abbrev pub key_of : Gap → Key
key_of gap = Between gap.left gap.right gap.llist gap.rlist gap.nulls

abbrev pub gap_width : Gap → ℕ
gap_width gap = gap.right - gap.left

-- a region with a list, by numbers, whose key may be asked for
pub record IsValidGap (n : Numbering) (gap : Gap) : Type 0 where
  pub valid : IsValidKey n.positions n.lists (key_of gap)
  pub is_gap : IsGapOf n (key_of gap) gap
