use Rattle.lg_core.proofs.EveryRun.{every_run}
use Rattle.lg_core.proofs.law.every_run_is_legal.Goals as goal

pub returns : goal.returns
returns c = every_run c.place_laws.ensures.edits
