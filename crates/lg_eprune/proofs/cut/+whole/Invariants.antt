use Rattle.std.proofs.Common.{◌≡◌, drop}
use Rattle.lg_gram.specs.Trees.{expr_items, trees_in}
use Rattle.lg_eprune.specs.Cuts.{is_met, are_whole}
use Rattle.lg_eprune.proofs.cut.+whole.Given as goal

abbrev pub invariant-are_whole-loop-member : goal.invariant-are_whole-loop-member
invariant-are_whole-loop-member l = are_whole (is_met l.right l.seen) (trees_in (drop l.member-index l.member-items)) ≡ are_whole (is_met l.right l.seen) (trees_in (expr_items l.members))
