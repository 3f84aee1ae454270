use Rattle.lg_rank.proofs.Joins.{joins_grow}
use Rattle.lg_rank.proofs.law.joins_grow.Goals as goal

pub returns : goal.returns
returns c = joins_grow
