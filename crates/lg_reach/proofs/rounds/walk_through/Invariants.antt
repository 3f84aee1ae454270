use Rattle.std.proofs.Common.{◌≡◌, ◌++◌, List, length}
use Rattle.std.specs.Vec.Iter.{into_iter_items, into_iter_len}
use Rattle.lg_eprune.specs.Live.{WordTree}
use Rattle.lg_reach.proofs.Rounding.{AreWalkedTo}
use Rattle.lg_reach.proofs.rounds.walk_through.Given as goal

abbrev pub invariant-loop-parts : goal.invariant-loop-parts
invariant-loop-parts l = record {
  counted : into_iter_len l.parts-iterator ≡ length (into_iter_items l.parts-iterator);
  told : (first : List (List WordTree)) × (first ++ into_iter_items l.parts-iterator ≡ l.fn.positions.items) × (length first ≡ length l.kept.items);
  walked : AreWalkedTo l.most l.fn.positions.items l.kept.items l.fn.known l.sites l.ways (length l.kept.items);
}
