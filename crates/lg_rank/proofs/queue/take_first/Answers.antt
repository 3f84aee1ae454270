use Rattle.std.proofs.Common.{◌≡◌, ◌+◌, subst, sym, arith}
use Rattle.std.specs.BinaryHeap.{heap_items, heap_len}
use Rattle.lg_rank.specs.Queues.{Requeued}
use Rattle.lg_rank.specs.declared.part.Part.{Part}
use Rattle.lg_rank.proofs.Queued.{ok_is, on_some, requeued}
use Rattle.lg_rank.proofs.queue.take_first.Goals as goal

pub returns : goal.returns
returns c =
    let first = c.unwrap-first.result in
    let is = c.unwrap-first.ensures in
    let few : heap_len c.pop.new.self + 1 ≡ heap_len c.args.queue.now = on_some c.pop.result first is c.pop.ensures.len in
    let same = c.pop.ensures.capacity in
    let room = c.requires.room in
    let one = c.put_in.ensures.succeeds (omega arith) in
    let len = ok_is c.put_in.result one c.put_in.ensures.len in
    let grown = c.put_in.ensures.capacity in
    let two = c.put_in-2.ensures.succeeds (omega arith) in
    subst (λ (p : Part). Requeued (heap_items c.args.queue.now) c.args.again c.args.opened p (heap_items c.put_in-2.new.queue)) (sym c.into_part.ensures)
    (requeued (heap_items c.args.queue.now) (heap_items c.pop.new.self) (heap_items c.put_in.new.queue) (heap_items c.put_in-2.new.queue) c.pop.result c.args.again c.args.opened first
    is c.pop.ensures.top c.pop.ensures.permutation c.pop.ensures.heap_order
    (ok_is c.put_in.result one c.put_in.ensures.items) (ok_is c.put_in.result one c.put_in.ensures.heap)
    (ok_is c.put_in-2.result two c.put_in-2.ensures.items) (ok_is c.put_in-2.result two c.put_in-2.ensures.heap))
