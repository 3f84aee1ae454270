use Rattle.lg_idiom.proofs.Restoring.{chains_stand_for_words}
use Rattle.lg_idiom.proofs.law.chains_stand_for_words.Goals as goal

pub returns : goal.returns
returns c = chains_stand_for_words
