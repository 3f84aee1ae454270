use Rattle.std.proofs.Common.{◌≡◌, ◌+◌, length, map, drop}
use Rattle.std.specs.List.{slice_get}
use Rattle.lg_gram.specs.RawTrees.{raw_items, raw_trees_in, macros_in}
use Rattle.lg_gram.proofs.entry.+reference.Given as goal

abbrev pub invariant-reference_among-loop-member : goal.invariant-reference_among-loop-member
invariant-reference_among-loop-member l = record {
  passed : l.left + length (macros_in (raw_trees_in (raw_items l.members))) ≡ l.index + length (macros_in (raw_trees_in (drop l.member-index l.member-items)));
  told : slice_get (map (λ m. m.0) (macros_in (raw_trees_in (drop l.member-index l.member-items)))) l.left ≡ slice_get (map (λ m. m.0) (macros_in (raw_trees_in (raw_items l.members)))) l.index;
}
