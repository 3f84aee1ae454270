use Rattle.lg_region.specs.Matching.{AreFilled}
use Rattle.lg_region.proofs.matching.table_of.Given as goal

abbrev pub invariant-loop-near : goal.invariant-loop-near
invariant-loop-near l = AreFilled l.kinds l.near 0 l.bits.items
