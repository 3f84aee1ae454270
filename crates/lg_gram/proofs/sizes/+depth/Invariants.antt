use Rattle.std.proofs.Common.{◌≡◌, min, max, ◌≤◌, drop}
use Rattle.lg_gram.specs.Trees.{expr_items, trees_in}
use Rattle.lg_gram.specs.Measures.{depth_in}
use Rattle.lg_gram.proofs.sizes.+depth.Given as goal

abbrev pub invariant-depth_of_deepest-loop-member : goal.invariant-depth_of_deepest-loop-member
invariant-depth_of_deepest-loop-member l =
    (l.deepest ≤ 1000) × (min (max l.deepest (depth_in (trees_in (drop l.member-index l.member-items)))) 1000 ≡ min (depth_in (trees_in (expr_items l.members))) 1000)
