use Rattle.std.specs.BinaryHeap.{heap_items}
use Rattle.lg_rank.specs.Values.{value_of}
use Rattle.lg_rank.proofs.Peeking.{shown_grown, shown_none, shown_ready, shown_table}
use Rattle.lg_rank.proofs.node.show_least.Goals as goal

pub returns-clause-table : goal.returns-clause-table
returns-clause-table c = shown_table (value_of c.args.nothing.now) c.args.nodes.now.items c.args.k c.index_mut.result.now c.show.new.node (heap_items c.args.queue) c.requires.forest c.requires.table c.requires.idle c.index_mut.ensures.value c.requires.unread c.requires.least c.show.ensures

pub returns-clause-grown : goal.returns-clause-grown
returns-clause-grown c = shown_grown (value_of c.args.nothing.now) c.args.nodes.now.items c.args.k c.index_mut.result.now c.show.new.node (heap_items c.args.queue) c.requires.forest c.requires.table c.requires.idle c.index_mut.ensures.value c.requires.unread c.requires.least c.show.ensures

pub returns-clause-ready : goal.returns-clause-ready
returns-clause-ready c = shown_ready (value_of c.args.nothing.now) c.args.nodes.now.items c.args.k c.index_mut.result.now c.show.new.node (heap_items c.args.queue) c.requires.forest c.requires.table c.requires.idle c.index_mut.ensures.value c.requires.unread c.requires.least c.show.ensures

pub returns-clause-none : goal.returns-clause-none
returns-clause-none c = shown_none (value_of c.args.nothing.now) c.args.nodes.now.items c.args.k c.index_mut.result.now c.show.new.node (heap_items c.args.queue) c.requires.forest c.requires.table c.requires.idle c.index_mut.ensures.value c.requires.unread c.requires.least c.show.ensures
