use Rattle.std.proofs.Common.{◌≡◌, length}
use Rattle.lg_sharpen.specs.Filling.{rows_in, AreStuckTo}
use Rattle.lg_sharpen.proofs.gaps.stuck_row.Given as goal

abbrev pub invariant-loop-before : goal.invariant-loop-before
invariant-loop-before l = AreStuckTo l.right (rows_in l.least) l.position l.before l.counts.items × (length l.counts.items ≡ l.lengths)
