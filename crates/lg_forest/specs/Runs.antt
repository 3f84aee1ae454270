-- What is known of halves stands side by side in one list: each half has a run of it.
use Rattle.std.specs.Prelude.{◌≤◌, List, length, slice_range}
use Rattle.std.specs.List.{Contains}
use Rattle.lg_region.specs.declared.group.Right.{Right}
use Rattle.lg_forest.specs.declared.halves.Half.{Half}
use Rattle.lg_forest.specs.declared.halves.Run.{Run}

abbrev pub run_of : List Right → Run → List Right
run_of rights run = slice_range rights run.start run.end

abbrev pub ends_of : List Right → Half × Run → Half × List Right
ends_of rights e = (e.0, run_of rights e.1)

pub record IsRun (rights : List Right) (run : Run) : Type 0 where
  pub starts : run.start ≤ run.end
  pub ends : run.end ≤ length rights

-- each half has a run
abbrev pub AreRuns : List (Half × Run) → List Right → Type 0
AreRuns found rights = (half : Half) (run : Run) → Contains found (half, run) → IsRun rights run
