use Rattle.lg_idiom.proofs.Single.{taken_are_one}
use Rattle.lg_idiom.proofs.law.taken_are_one.Goals as goal

pub returns : goal.returns
returns c = taken_are_one
