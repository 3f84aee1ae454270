use Rattle.std.proofs.Common.{List, drop}
use Rattle.lg_gram.specs.Connectors.{Connector}
use Rattle.lg_gram.specs.Trees.{expr_items, trees_in}
use Rattle.lg_eprune.specs.Cuts.{leaves_in, Lists}
use Rattle.lg_eprune.proofs.seen.+leaves.Given as goal

abbrev pub invariant-see_leaves_in-loop-member : goal.invariant-see_leaves_in-loop-member
invariant-see_leaves_in-loop-member l = (last : List (List Connector)) → Lists l.seen (leaves_in l.right (trees_in (drop l.member-index l.member-items))) last → Lists l.fn.seen (leaves_in l.right (trees_in (expr_items l.members))) last
