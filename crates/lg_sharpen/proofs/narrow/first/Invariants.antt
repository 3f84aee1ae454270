use Rattle.lg_sharpen.proofs.Narrowing.{NoneBelow}
use Rattle.lg_sharpen.proofs.narrow.first.Given as goal

abbrev pub invariant-loop-distance : goal.invariant-loop-distance
invariant-loop-distance l = NoneBelow l.right l.most l.gaps l.position l.table.cells.now l.site l.distance
