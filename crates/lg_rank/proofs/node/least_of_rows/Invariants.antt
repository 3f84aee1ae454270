use Rattle.std.proofs.Common.{take}
use Rattle.lg_rank.specs.Queues.{IsLeastOf}
use Rattle.lg_rank.specs.Tables.{held_by}
use Rattle.lg_rank.specs.Values.{value_of}
use Rattle.lg_rank.proofs.node.least_of_rows.Given as goal

abbrev pub invariant-loop-i : goal.invariant-loop-i
invariant-loop-i l = IsLeastOf (held_by (value_of l.nothing) l.nodes l.k) (take l.i l.rows) l.least
