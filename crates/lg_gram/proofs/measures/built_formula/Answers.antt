use Rattle.std.proofs.Common.{sym, subst}
use Rattle.lg_gram.specs.Formulas.{IsFormula}
use Rattle.lg_gram.proofs.Filled.{sizes_fit}
use Rattle.lg_gram.proofs.measures.built_formula.Goals as goal

pub of_measured-requires-clause-small : goal.of_measured-requires-clause-small
of_measured-requires-clause-small g c = subst IsFormula (sym c.in_ok-expr.ensures) c.requires

pub of_measured-requires-clause-sizes : goal.of_measured-requires-clause-sizes
of_measured-requires-clause-sizes g c =
    let sizes = c.filled_sizes-sizes in
    sizes_fit _ _ sizes.result c.in_ok-expr.ensures c.requires sizes.ensures.nodes sizes.ensures.choices sizes.ensures.left sizes.ensures.right
