use Rattle.std.proofs.Common.{arith}
use Rattle.lg_rules.specs.Places.{linkage_of}
use Rattle.lg_rules.proofs.Served.{satisfied_from}
use Rattle.lg_rules.proofs.checker.satisfaction.first_unsatisfied.Goals as goal

-- all positions have their links
pub returns-clause-none : goal.returns-clause-none
returns-clause-none c =
    satisfied_from (linkage_of c.args.chosen.now c.args.links.now) (λ i less. c.loop-position.invariant i (omega arith))
