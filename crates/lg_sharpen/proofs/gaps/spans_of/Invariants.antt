use Rattle.lg_sharpen.specs.Filling.{rows_in}
use Rattle.lg_sharpen.proofs.Rows.{SpansTo}
use Rattle.lg_sharpen.proofs.gaps.spans_of.Given as goal

abbrev pub invariant-loop-position : goal.invariant-loop-position
invariant-loop-position l = SpansTo l.right l.words l.most (rows_in l.least) l.position (rows_in l.rows.items)
