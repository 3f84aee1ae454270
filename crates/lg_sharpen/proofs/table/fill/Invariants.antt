use Rattle.lg_sharpen.specs.Sites.{items_in}
use Rattle.lg_sharpen.proofs.Tables.{TableSoFar}
use Rattle.lg_sharpen.proofs.table.fill.Given as goal

abbrev pub invariant-loop-index : goal.invariant-loop-index
invariant-loop-index l = TableSoFar l.sides l.used (items_in l.lists) l.index l.table
