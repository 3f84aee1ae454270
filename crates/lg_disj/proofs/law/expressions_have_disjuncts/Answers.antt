use Rattle.lg_disj.proofs.Exist.{have_disjuncts}
use Rattle.lg_disj.proofs.law.expressions_have_disjuncts.Goals as goal

pub returns : goal.returns
returns c = have_disjuncts c.connectors_are_ordered.ensures.exact
