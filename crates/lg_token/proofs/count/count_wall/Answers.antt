use Rattle.std.proofs.Common.{true≢false, refl, sym}
use Rattle.lg_token.proofs.Counting.{wall_counted, no_wall_counted}
use Rattle.lg_token.proofs.count.count_wall.Goals as goal

pub returns-then-has-clause-wall : goal.returns-then-has-clause-wall
returns-then-has-clause-wall c = wall_counted c.args.view.now c.args.name.now (c.if-has.ensures.0 refl)

pub returns-else-has-clause-wall : goal.returns-else-has-clause-wall
returns-else-has-clause-wall c = no_wall_counted c.args.view.now c.args.name.now (λ h. true≢false (sym (c.if-has.ensures.1 h)))
