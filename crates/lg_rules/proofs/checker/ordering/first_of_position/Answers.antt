use Rattle.std.proofs.Common.{ℕ}
use Rattle.lg_rules.specs.Places.{linkage_of}
use Rattle.lg_rules.specs.Verdicts.{OrderAt}
use Rattle.lg_rules.proofs.Ordered.{of_sides}
use Rattle.lg_rules.proofs.checker.ordering.first_of_position.Goals as goal

-- neither side has a case
pub returns-clause-none : goal.returns-clause-none
returns-clause-none c =
    of_sides (λ right. (place : ℕ) → OrderAt (linkage_of c.args.chosen.now c.args.links.now) c.args.position right place → ⊥)
    c.in_default.ensures.none c.in_default-first_of_side.ensures.none
