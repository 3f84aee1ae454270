use Rattle.lg_pprune.proofs.Tables.{TableSoFar}
use Rattle.lg_pprune.proofs.table.fill.Given as goal

abbrev pub invariant-loop-index : goal.invariant-loop-index
invariant-loop-index l = TableSoFar l.right l.words l.sides l.used l.index l.table
