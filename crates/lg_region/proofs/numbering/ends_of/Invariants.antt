use Rattle.std.proofs.Common.{map}
use Rattle.lg_region.proofs.Ends.{EndsSoFar}
use Rattle.lg_region.proofs.numbering.ends_of.Given as goal

abbrev pub invariant-loop-index : goal.invariant-loop-index
invariant-loop-index l = EndsSoFar (map (λ f. f.now) l.fronts) l.kinds.keys l.firsts.items l.ends.items l.index
