use Rattle.lg_forest.proofs.forest.solve_at_by.Goals as goal

pub returns-clause-steps : goal.returns-clause-steps
returns-clause-steps g c = λ lists first. let r = c.in_ok-forest.ensures.steps lists first in (
  r.0,
  r.1,
  record { at_most = r.2; alone = λ one. r.3 (c.in_ok-known.ensures.alone one) },
)
