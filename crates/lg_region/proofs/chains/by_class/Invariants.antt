use Rattle.std.proofs.Common.{take}
use Rattle.std.specs.List.{AllZip}
use Rattle.lg_region.specs.Chains.{IsByClass}
use Rattle.lg_region.proofs.chains.by_class.Given as goal

abbrev pub invariant-loop-index : goal.invariant-loop-index
invariant-loop-index l = AllZip (IsByClass l.side) (take l.index l.positions) l.words.items
