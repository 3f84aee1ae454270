use Rattle.std.proofs.Common.{◌∙◌}
use Rattle.lg_disj.specs.Places.{listed}
use Rattle.lg_disj.proofs.Growing.{with_bare, after_bare}
use Rattle.lg_disj.proofs.product.products.Goals as goal

pub returns-then-is_bare-clause-exact : goal.returns-then-is_bare-clause-exact
returns-then-is_bare-clause-exact c =
    c.add_price.ensures.exact ∙ with_bare (listed c.args.firsts) (listed c.args.seconds) _ c.cost.ensures (c.is_bare.ensures c.if-is_bare.true)

pub returns-then-is_bare-2-clause-exact : goal.returns-then-is_bare-2-clause-exact
returns-then-is_bare-2-clause-exact c =
    c.add_price-then-is_bare-2.ensures.exact ∙ after_bare (listed c.args.firsts) (listed c.args.seconds) _ c.cost-then-is_bare-2.ensures (c.is_bare-2.ensures c.if-is_bare-2.true)
