use Rattle.lg_sharpen.proofs.Tables.{StartedUpTo}
use Rattle.lg_sharpen.proofs.start.started.Given as goal

abbrev pub invariant-loop-place : goal.invariant-loop-place
invariant-loop-place l = StartedUpTo l.list l.end l.place l.sites.items
