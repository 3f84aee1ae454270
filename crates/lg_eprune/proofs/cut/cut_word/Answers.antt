use Rattle.std.proofs.Common.{ap, sym, ◌∙◌, subst}
use Rattle.std.specs.Option.{option_map}
use Rattle.lg_gram.specs.Trees.{tree_of}
use Rattle.lg_gram.specs.Formulas.{IsFormula}
use Rattle.lg_eprune.specs.Cuts.{is_met}
use Rattle.lg_eprune.proofs.Bounds.{cut_formula}
use Rattle.lg_eprune.proofs.cut.cut_word.Goals as goal

pub of_small-requires : goal.of_small-requires
of_small-requires c =
    let test = is_met c.args.right c.args.seen.now in
    cut_formula test (tree_of c.expr.result.now) (tree_of c.in-Some.left) (subst (λ e. IsFormula (tree_of e)) (sym c.expr.ensures.value) c.expr.ensures.limits) (sym c.in_ok-left.ensures ∙ ap (option_map tree_of) c.in-Some.is)
