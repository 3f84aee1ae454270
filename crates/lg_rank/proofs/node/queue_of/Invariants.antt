use Rattle.std.proofs.Common.{take}
use Rattle.std.specs.BinaryHeap.{heap_items}
use Rattle.lg_rank.specs.Queues.{IsQueue}
use Rattle.lg_rank.specs.Tables.{held_by}
use Rattle.lg_rank.specs.Values.{value_of}
use Rattle.lg_rank.proofs.node.queue_of.Given as goal

abbrev pub invariant-loop-i : goal.invariant-loop-i
invariant-loop-i l = IsQueue (held_by (value_of l.nothing) l.nodes l.k) (take l.i l.rows) (heap_items l.queue)
