use Rattle.lg_session.proofs.Interleaved.{make_runs}
use Rattle.lg_session.proofs.law.paths_make_runs.Goals as goal

pub returns : goal.returns
returns c = make_runs c.code_laws.ensures.codes c.every_run_is_legal.ensures
