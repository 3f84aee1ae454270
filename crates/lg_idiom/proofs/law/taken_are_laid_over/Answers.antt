use Rattle.lg_idiom.proofs.Laying.{taken_are_laid_over}
use Rattle.lg_idiom.proofs.law.taken_are_laid_over.Goals as goal

pub returns : goal.returns
returns c = taken_are_laid_over
