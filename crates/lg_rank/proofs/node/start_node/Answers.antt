use Rattle.std.specs.BinaryHeap.{heap_items}
use Rattle.lg_rank.specs.Values.{value_of}
use Rattle.lg_rank.proofs.Steps.{started}
use Rattle.lg_rank.proofs.node.start_node.Goals as goal

pub returns : goal.returns
returns c = started (value_of c.args.nothing.now) c.args.nodes.now.items c.args.k c.index_mut.result.now c.start.new.node c.args.rows.items (heap_items c.args.queue) c.requires.forest c.requires.table c.requires.idle c.index_mut.ensures.value c.start.ensures c.requires.all c.requires.queue
