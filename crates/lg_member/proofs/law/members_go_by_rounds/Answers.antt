use Rattle.lg_member.proofs.Keeping.{by_rounds}
use Rattle.lg_member.proofs.law.members_go_by_rounds.Goals as goal

pub returns : goal.returns
returns c = by_rounds
