use Rattle.std.proofs.Common.{◌≡◌, min, max, ◌≤◌, drop, map}
use Rattle.lg_gram.specs.Limits.{LEVEL_COUNTED}
use Rattle.lg_gram.specs.RawTrees.{raw_items, raw_trees_in, macros_in}
use Rattle.lg_gram.specs.Filled.{level_reached, highest}
use Rattle.lg_gram.proofs.macros.+filled_level.Given as goal

abbrev pub invariant-level_among-loop-member : goal.invariant-level_among-loop-member
invariant-level_among-loop-member g l = record {
  low : l.greatest ≤ LEVEL_COUNTED;
  told : min (max l.greatest (highest (map (level_reached (g.M.Macros.formulas l.macros)) (macros_in (raw_trees_in (drop l.member-index l.member-items)))))) LEVEL_COUNTED ≡ min (highest (map (level_reached (g.M.Macros.formulas l.macros)) (macros_in (raw_trees_in (raw_items l.members))))) LEVEL_COUNTED;
}
