use Rattle.lg_run.proofs.Verdicts.{some_verdict, one_verdict}
use Rattle.lg_run.proofs.law.inputs_have_one_verdict.Goals as goal

pub returns-clause-some : goal.returns-clause-some
returns-clause-some c = some_verdict c.exactly_one_dictionary.ensures.some c.exactly_one_knowledge.ensures.some c.exactly_one_script.ensures.some

pub returns-clause-one : goal.returns-clause-one
returns-clause-one c = one_verdict c.exactly_one_dictionary.ensures.one c.exactly_one_knowledge.ensures.one c.exactly_one_script.ensures.one
