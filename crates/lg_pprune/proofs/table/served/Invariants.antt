use Rattle.lg_pprune.proofs.Tables.{ServedSoFar}
use Rattle.lg_pprune.proofs.table.served.Given as goal

abbrev pub invariant-loop-index : goal.invariant-loop-index
invariant-loop-index l = ServedSoFar l.right l.words l.table l.sides l.used l.index l.good.items
