use Rattle.std.proofs.Common.{◌+◌, ◌*◌, length}
use Rattle.lg_forest.specs.Search.{key_width, part_bound, alt_bound}
use Rattle.lg_rank.specs.Fronts.{Extends}
use Rattle.lg_rank.specs.Keyed.{AreInOrder, AreMade, IsWayOf}
use Rattle.lg_rank.proofs.build.+walk.Given as goal

abbrev pub decreases-visit : goal.decreases-visit
decreases-visit l = 5 * key_width l.problem.now l.key + 4

abbrev pub decreases-visit_below : goal.decreases-visit_below
decreases-visit_below l = 5 * key_width l.problem.now l.key + 3

abbrev pub decreases-visit_alt : goal.decreases-visit_alt
decreases-visit_alt l = 5 * alt_bound l.problem.now l.alt + 2

abbrev pub decreases-visit_part : goal.decreases-visit_part
decreases-visit_part l = 5 * part_bound l.problem.now l.key

-- the ways of the alternatives so far, with nodes for all their parts
abbrev pub invariant-visit_below-loop-index : goal.invariant-visit_below-loop-index
invariant-visit_below-loop-index l = record {
  made : AreMade l.problem l.forest l.made.keys l.made.nodes.items;
  grown : Extends l.fn.made.keys l.made.keys;
  ways : AreInOrder (IsWayOf l.problem l.made.keys (length l.made.keys) l.key) l.alts l.index l.ways.items;
}
