use Rattle.std.proofs.Common.{rules, Ok, []}
use Rattle.lg_run.specs.Inputs.{KnowledgeReads, accepted, reads_knowledge}
use Rattle.lg_run.proofs.Told.{comes_at_once, told_know}
use Rattle.lg_run.proofs.About.{first_name}
use Rattle.lg_run.proofs.knowledge.knowledge_of.Goals as goal

pub returns-in-Ok-clause-told : goal.returns-in-Ok-clause-told
returns-in-Ok-clause-told c = comes_at_once (KnowledgeReads c.args.name.now c.args.bytes.now) (accepted c.in-Ok.know) (reads_knowledge (Ok c.in-Ok.know) c.in-Ok.ensures.told)

pub returns-in-Err-clause-told : goal.returns-in-Err-clause-told
returns-in-Err-clause-told c = told_know c.args.name.now c.args.bytes.now c.in-Err.error (search rules) c.in-Err.ensures.told

pub returns-in-Err-clause-about : goal.returns-in-Err-clause-about
returns-in-Err-clause-about c = λ asked. (first_name c.args.name.now [], search rules)
