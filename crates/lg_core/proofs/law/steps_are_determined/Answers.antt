use Rattle.lg_core.proofs.Outcomes.{are_determined}
use Rattle.lg_core.proofs.law.steps_are_determined.Goals as goal

pub returns : goal.returns
returns c = are_determined c.tokens_are_one_list.ensures.one
