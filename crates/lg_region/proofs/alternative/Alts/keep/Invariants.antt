use Rattle.lg_region.proofs.Keeps.{KeptSoFar}
use Rattle.lg_region.proofs.alternative.Alts.keep.Given as goal

abbrev pub invariant-loop-index : goal.invariant-loop-index
invariant-loop-index l = KeptSoFar l.initial.items.items l.live l.items.items l.count l.index
