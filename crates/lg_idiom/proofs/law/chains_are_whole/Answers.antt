use Rattle.lg_idiom.proofs.Using.{chains_are_whole}
use Rattle.lg_idiom.proofs.law.chains_are_whole.Goals as goal

pub returns : goal.returns
returns c = chains_are_whole
