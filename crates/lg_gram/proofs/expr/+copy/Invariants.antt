use Rattle.std.proofs.Common.{◌≡◌, map, take}
use Rattle.lg_gram.specs.Trees.{tree_of}
use Rattle.lg_gram.proofs.expr.+copy.Given as goal

abbrev pub invariant-Exprs::copied-loop-member : goal.invariant-Exprs::copied-loop-member
invariant-Exprs::copied-loop-member l = map tree_of l.copies.items ≡ map tree_of (take l.member-index l.member-items)
