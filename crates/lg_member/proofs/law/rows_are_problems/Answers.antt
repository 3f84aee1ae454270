use Rattle.lg_member.proofs.Written.{left_of}
use Rattle.lg_member.proofs.law.rows_are_problems.Goals as goal

pub returns : goal.returns
returns c = left_of
