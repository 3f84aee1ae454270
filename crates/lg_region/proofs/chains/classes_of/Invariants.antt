use Rattle.std.proofs.Common.{◌≡◌, take}
use Rattle.lg_region.specs.Chains.{classes_on}
use Rattle.lg_region.proofs.chains.classes_of.Given as goal

abbrev pub invariant-loop-sides : goal.invariant-loop-sides
invariant-loop-sides l = l.classes.items ≡ classes_on l.side (take l.sides-index l.disjuncts)
