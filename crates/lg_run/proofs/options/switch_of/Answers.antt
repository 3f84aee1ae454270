use Rattle.lg_run.specs.Words.{on, off}
use Rattle.lg_run.proofs.options.switch_of.Goals as goal

pub returns-in-on : goal.returns-in-on
returns-in-on c = rw c.in-on.is on

pub returns-in-off : goal.returns-in-off
returns-in-off c = rw c.in-off.is off
