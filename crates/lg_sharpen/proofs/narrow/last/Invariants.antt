use Rattle.lg_sharpen.proofs.Narrowing.{NoneFrom}
use Rattle.lg_sharpen.proofs.narrow.last.Given as goal

abbrev pub invariant-loop-end : goal.invariant-loop-end
invariant-loop-end l = NoneFrom l.right l.most l.gaps l.position l.table.cells.now l.site l.end

abbrev pub decreases-loop-end : goal.decreases-loop-end
decreases-loop-end l = l.end
