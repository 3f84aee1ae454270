use Rattle.lg_sharpen.proofs.Rows.{LoweredTo}
use Rattle.lg_sharpen.proofs.gaps.lower.Given as goal

abbrev pub invariant-loop-place : goal.invariant-loop-place
invariant-loop-place l = LoweredTo l.place l.end l.fn.row.items l.row.items
