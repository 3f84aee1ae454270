use Rattle.std.proofs.Common.{◌≡◌, drop, map}
use Rattle.std.specs.Option.{option_map}
use Rattle.lg_gram.specs.Trees.{tree_of, expr_items, trees_in}
use Rattle.lg_eprune.specs.Cuts.{is_met, cut_all, cut_any}
use Rattle.lg_eprune.proofs.Joined.{before}
use Rattle.lg_eprune.proofs.cut.+cut.Given as goal

abbrev pub invariant-cut_all-loop-member : goal.invariant-cut_all-loop-member
invariant-cut_all-loop-member l =
    option_map (before (map tree_of l.kept.items)) (cut_all (is_met l.right l.seen) (trees_in (drop l.member-index l.member-items))) ≡ cut_all (is_met l.right l.seen) (trees_in (expr_items l.members))

abbrev pub invariant-cut_any-loop-member : goal.invariant-cut_any-loop-member
invariant-cut_any-loop-member l =
    before (map tree_of l.kept.items) (cut_any (is_met l.right l.seen) (trees_in (drop l.member-index l.member-items))) ≡ cut_any (is_met l.right l.seen) (trees_in (expr_items l.members))
