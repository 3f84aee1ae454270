use Rattle.std.proofs.Common.{◌≡◌, min, max, ◌+◌, ◌*◌, ◌≤◌, drop, false, true}
use Rattle.lg_gram.specs.Limits.{COUNTED, SIDE_COUNTED}
use Rattle.lg_gram.specs.Trees.{expr_items, trees_in}
use Rattle.lg_gram.specs.Measures.{nodes_in, product_in, choices_in, side_in, longest_in}
use Rattle.lg_gram.proofs.sizes.+sizes.Given as goal

-- each measure so far, and those of the members that are left, give that of all
abbrev pub invariant-sizes_of_all-loop-member : goal.invariant-sizes_of_all-loop-member
invariant-sizes_of_all-loop-member l =
    let rest = trees_in (drop l.member-index l.member-items) in
    let all = trees_in (expr_items l.members) in
    record {
      few_nodes : l.sizes.nodes ≤ COUNTED;
      few_choices : l.sizes.choices ≤ COUNTED;
      short_left : l.sizes.left ≤ SIDE_COUNTED;
      short_right : l.sizes.right ≤ SIDE_COUNTED;
      nodes : min (l.sizes.nodes + nodes_in rest) COUNTED ≡ min (1 + nodes_in all) COUNTED;
      choices : min (l.sizes.choices * product_in rest) COUNTED ≡ min (product_in all) COUNTED;
      left : min (l.sizes.left + side_in false rest) SIDE_COUNTED ≡ min (side_in false all) SIDE_COUNTED;
      right : min (l.sizes.right + side_in true rest) SIDE_COUNTED ≡ min (side_in true all) SIDE_COUNTED;
    }

abbrev pub invariant-sizes_of_any-loop-member : goal.invariant-sizes_of_any-loop-member
invariant-sizes_of_any-loop-member l =
    let rest = trees_in (drop l.member-index l.member-items) in
    let all = trees_in (expr_items l.members) in
    record {
      few_nodes : l.sizes.nodes ≤ COUNTED;
      few_choices : l.sizes.choices ≤ COUNTED;
      short_left : l.sizes.left ≤ SIDE_COUNTED;
      short_right : l.sizes.right ≤ SIDE_COUNTED;
      nodes : min (l.sizes.nodes + nodes_in rest) COUNTED ≡ min (1 + nodes_in all) COUNTED;
      choices : min (l.sizes.choices + choices_in rest) COUNTED ≡ min (choices_in all) COUNTED;
      left : min (max l.sizes.left (longest_in false rest)) SIDE_COUNTED ≡ min (longest_in false all) SIDE_COUNTED;
      right : min (max l.sizes.right (longest_in true rest)) SIDE_COUNTED ≡ min (longest_in true all) SIDE_COUNTED;
    }
