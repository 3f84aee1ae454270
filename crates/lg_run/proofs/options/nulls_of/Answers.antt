use Rattle.lg_run.specs.Words.{first, passing}
use Rattle.lg_run.proofs.options.nulls_of.Goals as goal

pub returns-in-first : goal.returns-in-first
returns-in-first c = rw c.in-first.is first

pub returns-in-passing : goal.returns-in-passing
returns-in-passing c = rw c.in-passing.is passing
