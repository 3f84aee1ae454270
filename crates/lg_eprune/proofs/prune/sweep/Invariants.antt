use Rattle.std.proofs.Common.{◌≡◌, ◌++◌, ◌||◌, List, [], length}
use Rattle.std.specs.Vec.Iter.{into_iter_items, into_iter_len}
use Rattle.lg_gram.specs.Connectors.{Connector}
use Rattle.lg_eprune.specs.Cuts.{swept, sweep_loses, IsSeen}
use Rattle.lg_eprune.proofs.prune.sweep.Given as goal

abbrev pub invariant-loop-words : goal.invariant-loop-words
invariant-loop-words l = record {
  counted : into_iter_len l.words-iterator ≡ length (into_iter_items l.words-iterator);
  told : (known : List Connector) × IsSeen l.seen known × (l.kept.items ++ swept l.right known (into_iter_items l.words-iterator) ≡ swept l.right [] l.fn.positions.items)
      × ((l.is_less || sweep_loses l.right known (into_iter_items l.words-iterator)) ≡ sweep_loses l.right [] l.fn.positions.items);
}
