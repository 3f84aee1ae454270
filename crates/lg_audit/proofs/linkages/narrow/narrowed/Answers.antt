-- A narrowed formula is within the limits.
use Rattle.std.proofs.Common.{sym, subst}
use Rattle.lg_gram.specs.Trees.{tree_of}
use Rattle.lg_gram.specs.Formulas.{IsFormula}
use Rattle.lg_audit.proofs.NarrowBounds.{narrowed_formula}
use Rattle.lg_audit.proofs.linkages.narrow.narrowed.Goals as goal

pub of_small-requires : goal.of_small-requires
of_small-requires c =
    subst IsFormula (sym c.in_ok-expr.ensures) (narrowed_formula _ (tree_of c.expr.result.now) (subst (λ e. IsFormula (tree_of e)) (sym c.expr.ensures.value) c.expr.ensures.limits))
