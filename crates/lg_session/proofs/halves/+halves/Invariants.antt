use Rattle.std.proofs.Common.{vec_len}
use Rattle.lg_session.proofs.halves.+halves.Given as goal

abbrev pub decreases-join+arg2 : goal.decreases-join+arg2
decreases-join+arg2 g l = vec_len l.low

abbrev pub decreases-join+arg3 : goal.decreases-join+arg3
decreases-join+arg3 g l = vec_len l.high

abbrev pub decreases-run_some : goal.decreases-run_some
decreases-run_some g l = vec_len l.jobs
