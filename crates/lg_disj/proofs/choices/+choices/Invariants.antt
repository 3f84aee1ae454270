use Rattle.std.proofs.Common.{◌+◌, ◌*◌, take}
use Rattle.std.specs.List.{All}
use Rattle.lg_gram.specs.Trees.{tree_of, trees_in, expr_items}
use Rattle.lg_gram.specs.Measures.{picks_of, choices_of_any, node_count, nodes_in}
use Rattle.lg_disj.specs.Places.{listed, all_both, IsArena, IsCheap}
use Rattle.lg_disj.specs.Grown.{Grows, Lists, StandFor}
use Rattle.lg_disj.proofs.choices.+choices.Given as goal

-- the nodes, and a members' list comes between its expression and its members
abbrev pub decreases-choices_of : goal.decreases-choices_of
decreases-choices_of l = 2 * node_count (tree_of l.e.now)

abbrev pub decreases-picks_of : goal.decreases-picks_of
decreases-picks_of l = 2 * nodes_in (trees_in (expr_items l.members.now)) + 1

abbrev pub decreases-choices_of_any : goal.decreases-choices_of_any
decreases-choices_of_any l = 2 * nodes_in (trees_in (expr_items l.members.now)) + 1

abbrev pub invariant-picks_of-loop-member : goal.invariant-picks_of-loop-member
invariant-picks_of-loop-member l = record {
  grows : Grows l.fn.leaves.items l.leaves.items;
  stand : StandFor l.leaves.items (all_both (listed l.firsts) (listed l.last)) (picks_of (trees_in (take l.member-index l.member-items)));
  first_arena : IsArena l.firsts;
  last_arena : IsArena l.last;
  first_costs : All IsCheap (listed l.firsts);
  last_costs : All IsCheap (listed l.last);
}

abbrev pub invariant-choices_of_any-loop-member : goal.invariant-choices_of_any-loop-member
invariant-choices_of_any-loop-member l = record {
  grows : Grows l.fn.leaves.items l.leaves.items;
  lists : Lists l.leaves.items (listed l.fn.all) (listed l.all) (choices_of_any (trees_in (take l.member-index l.member-items)));
  arena : IsArena l.all;
}
