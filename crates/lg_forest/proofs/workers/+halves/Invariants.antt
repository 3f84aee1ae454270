use Rattle.std.proofs.Common.{vec_len}
use Rattle.lg_forest.proofs.workers.+halves.Given as goal

abbrev pub decreases-join+arg2 : goal.decreases-join+arg2
decreases-join+arg2 g l = vec_len l.low

abbrev pub decreases-join+arg3 : goal.decreases-join+arg3
decreases-join+arg3 g l = vec_len l.high

abbrev pub decreases-walk_all : goal.decreases-walk_all
decreases-walk_all g l = vec_len l.seats
