use Rattle.lg_sharpen.specs.Filling.{rows_in}
use Rattle.lg_sharpen.proofs.Rows.{SpanRowTo}
use Rattle.lg_sharpen.proofs.gaps.span_row.Given as goal

abbrev pub invariant-loop-length : goal.invariant-loop-length
invariant-loop-length l = SpanRowTo l.right l.words l.most (rows_in l.least) l.position l.length l.row.items
