use Rattle.std.proofs.Common.{arith, below_more}
use Rattle.lg_rules.specs.Places.{linkage_of}
use Rattle.lg_rules.proofs.Ordered.{ordered_from}
use Rattle.lg_rules.proofs.checker.ordering.first_disorder.Goals as goal

-- this position is in order, as those before it
pub loop-position-preserved : goal.loop-position-preserved
loop-position-preserved c = below_more _ _ c.loop-position.invariant c.in_default.ensures.none

-- all positions are in order
pub returns-clause-none : goal.returns-clause-none
returns-clause-none c =
    ordered_from (linkage_of c.args.chosen.now c.args.links.now) c.requires.placed (λ i less. c.loop-position.invariant i (omega arith))
