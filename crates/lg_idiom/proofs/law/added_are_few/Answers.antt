use Rattle.lg_idiom.proofs.Counting.{added_are_few}
use Rattle.lg_idiom.proofs.law.added_are_few.Goals as goal

pub returns : goal.returns
returns c = added_are_few
