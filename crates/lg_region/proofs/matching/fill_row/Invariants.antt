use Rattle.std.proofs.Common.{◌-◌, length, get_or}
use Rattle.lg_region.specs.Chains.{IsNextOf}
use Rattle.lg_region.specs.Matching.{AreFilled, classes_of_kinds}
use Rattle.lg_region.proofs.matching.fill_row.Given as goal

abbrev pub invariant-loop-far : goal.invariant-loop-far
invariant-loop-far l = record {
  filled : AreFilled l.kinds l.near l.far l.bits.items;
  next : IsNextOf (classes_of_kinds l.kinds) (get_or (classes_of_kinds l.kinds) l.near 0) l.far l.far;
}

abbrev pub decreases-loop-far : goal.decreases-loop-far
decreases-loop-far l = length l.kinds - l.far
