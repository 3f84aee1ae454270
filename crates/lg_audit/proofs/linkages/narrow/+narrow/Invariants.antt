use Rattle.std.proofs.Common.{◌≡◌, map, take}
use Rattle.lg_gram.specs.Trees.{tree_of}
use Rattle.lg_gram.specs.declared.expr.Expr.{Expr}
use Rattle.lg_audit.specs.Printed.{narrowed, is_shown}
use Rattle.lg_audit.specs.Views.{texts}
use Rattle.lg_audit.proofs.linkages.narrow.+narrow.Given as goal

abbrev pub invariant-narrow_all-loop-member : goal.invariant-narrow_all-loop-member
invariant-narrow_all-loop-member l = map tree_of l.kept.items ≡ map (λ (e : Expr). narrowed (is_shown (texts l.lefts) (texts l.rights)) (tree_of e)) (take l.member-index l.member-items)
