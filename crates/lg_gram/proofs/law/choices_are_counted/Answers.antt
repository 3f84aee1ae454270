use Rattle.lg_gram.proofs.Counted.{counted}
use Rattle.lg_gram.proofs.law.choices_are_counted.Goals as goal

pub returns : goal.returns
returns c = counted
