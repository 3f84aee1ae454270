use Rattle.std.proofs.Common.{◌++◌, subst}
use Rattle.std.specs.BinaryHeap.{heap_items}
use Rattle.std.specs.List.Sorted.{IsPermutation}
use Rattle.lg_rank.specs.Queues.{waiting_list}
use Rattle.lg_rank.proofs.Peeking.{one_permuted}
use Rattle.lg_rank.proofs.queue.alone.Goals as goal

pub returns : goal.returns
returns c = one_permuted c.args.waiting (heap_items c.put_in.new.queue) (subst (λ l. IsPermutation (waiting_list c.args.waiting ++ l) (heap_items c.put_in.new.queue)) c.new-queue.ensures.items c.in_ok-put_in.ensures.items)
