use Rattle.std.proofs.Common.{ap, ◌∙◌, length}
use Rattle.lg_forest.specs.Forests.{Forest}
use Rattle.lg_forest.proofs.Solved.{nodes_counted}
use Rattle.lg_forest.proofs.forest.Forest.nodes.Goals as goal

pub returns-clause-counts : goal.returns-clause-counts
returns-clause-counts c =
    let e = ap (λ (f : Forest). length f.entries) c.self.view_is in
    λ positions from is. nodes_counted positions from c.args.self.now c.len.result is (c.len.ensures.value ∙ e)
