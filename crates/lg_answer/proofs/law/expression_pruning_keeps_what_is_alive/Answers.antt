use Rattle.lg_answer.proofs.AliveKept.{keep_alive}
use Rattle.lg_answer.proofs.law.expression_pruning_keeps_what_is_alive.Goals as goal

pub returns : goal.returns
returns c = λ words positions are. keep_alive words positions are
