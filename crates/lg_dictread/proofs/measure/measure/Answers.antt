use Rattle.std.proofs.Common.{Some, sym, subst}
use Rattle.lg_gram.specs.Filled.{filled}
use Rattle.lg_gram.specs.RawTrees.{raw_tree_of}
use Rattle.lg_gram.specs.declared.measures.Excess.{Excess}
use Rattle.lg_dictread.proofs.Measured.{IsTold, excess_told}
use Rattle.lg_dictread.proofs.measure.measure.Goals as goal

pub returns-in-Some-Nodes : goal.returns-in-Some-Nodes
returns-in-Some-Nodes g c =
    let t = filled (g.M.Macros.formulas c.args.macros.now) (raw_tree_of c.args.expr.now) in
    subst (λ (x : Excess). IsTold t c.args.line (Some x)) c.in-Some-Nodes.field-0-is (subst (IsTold t c.args.line) (sym c.in-Some-Nodes.ensures) (excess_told t c.args.line))

pub returns-in-Some-Choices : goal.returns-in-Some-Choices
returns-in-Some-Choices g c =
    let t = filled (g.M.Macros.formulas c.args.macros.now) (raw_tree_of c.args.expr.now) in
    subst (λ (x : Excess). IsTold t c.args.line (Some x)) c.in-Some-Choices.field-0-is (subst (IsTold t c.args.line) (sym c.in-Some-Choices.ensures) (excess_told t c.args.line))

pub returns-in-Some-Side : goal.returns-in-Some-Side
returns-in-Some-Side g c =
    let t = filled (g.M.Macros.formulas c.args.macros.now) (raw_tree_of c.args.expr.now) in
    subst (λ (x : Excess). IsTold t c.args.line (Some x)) c.in-Some-Side.field-0-is (subst (IsTold t c.args.line) (sym c.in-Some-Side.ensures) (excess_told t c.args.line))
