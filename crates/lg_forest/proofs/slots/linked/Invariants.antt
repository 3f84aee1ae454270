-- the slots before this number are linked, and the pairs are what they were
use Rattle.std.proofs.Common.{◌≡◌, length}
use Rattle.lg_forest.specs.Slots.{AreLinked, keys_in, nexts_in, pairs_in}
use Rattle.lg_forest.proofs.slots.linked.Given as goal

abbrev pub invariant-loop-at : goal.invariant-loop-at
invariant-loop-at g l = record {
  linked : AreLinked g.K.Spread.spread (keys_in l.slots.items) l.heads.items (nexts_in l.slots.items) l.at;
  count : length l.heads.items ≡ l.count;
  same : pairs_in l.slots.items ≡ pairs_in l.fn.slots.items;
  long : length l.slots.items ≡ length l.fn.slots.items;
}
