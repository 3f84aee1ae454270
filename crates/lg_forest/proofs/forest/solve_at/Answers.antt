use Rattle.lg_forest.proofs.forest.solve_at.Goals as goal

pub returns-clause-steps : goal.returns-clause-steps
returns-clause-steps g c = λ lists first. let r = c.in_ok-forest.ensures.steps lists first in (r.0, r.1, r.3 c.nothing-known.ensures)
