use Rattle.std.proofs.Common.{arith}
use Rattle.std.specs.BinaryHeap.{heap_items}
use Rattle.lg_rank.specs.Tables.{held_by}
use Rattle.lg_rank.specs.Values.{value_of}
use Rattle.lg_rank.proofs.Queued.{queue_begins, queue_step, queue_ends}
use Rattle.lg_rank.proofs.Steps.{begin_holds}
use Rattle.lg_rank.proofs.node.queue_of.Goals as goal

pub loop-i-init : goal.loop-i-init
loop-i-init c = queue_begins (held_by (value_of c.args.nothing.now) c.args.nodes.now c.args.k) c.args.rows.now (heap_items c.new-queue.result) c.new-queue.ensures.items c.new-queue.ensures.heap_order

pub with_part-requires-clause-holds : goal.with_part-requires-clause-holds
with_part-requires-clause-holds c = λ live. begin_holds (value_of c.args.nothing.now) c.args.nodes.now c.args.k c.loop-i.i c.args.rows.now _ c.requires.all (omega arith) live

pub loop-i-preserved : goal.loop-i-preserved
loop-i-preserved c =
    queue_step (held_by (value_of c.args.nothing.now) c.args.nodes.now c.args.k) c.args.rows.now c.loop-i.i _ c.in_ok-more.more (heap_items c.loop-i.queue) (heap_items c.put_in.new.queue) (omega arith) c.loop-i.invariant c.in_ok-more.ensures c.in_ok-put_in.ensures.items c.in_ok-put_in.ensures.heap

pub returns : goal.returns
returns c = queue_ends (held_by (value_of c.args.nothing.now) c.args.nodes.now c.args.k) c.args.rows.now c.loop-i.i (heap_items c.loop-i.queue) (omega arith) c.loop-i.invariant
