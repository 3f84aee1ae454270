use Rattle.lg_pprune.proofs.Tables.{ServedUpTo}
use Rattle.lg_pprune.proofs.table.is_served.Given as goal

abbrev pub invariant-loop-place : goal.invariant-loop-place
invariant-loop-place l = ServedUpTo l.right l.words l.table l.side.position l.side.list.now l.place
