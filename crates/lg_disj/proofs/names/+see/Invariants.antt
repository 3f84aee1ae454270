use Rattle.std.proofs.Common.{drop}
use Rattle.lg_gram.specs.Trees.{trees_in, expr_items}
use Rattle.lg_disj.specs.Exist.{HaveNames}
use Rattle.lg_disj.proofs.names.+see.Given as goal

-- the names of what is left give those of all
abbrev pub invariant-see_all-loop-member : goal.invariant-see_all-loop-member
invariant-see_all-loop-member l = HaveNames (trees_in (drop l.member-index l.member-items)) → HaveNames (trees_in (expr_items l.members))
