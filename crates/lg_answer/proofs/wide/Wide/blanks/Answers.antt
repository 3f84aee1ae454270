use Rattle.lg_answer.proofs.Searching.{no_fewer_than_blanks}
use Rattle.lg_answer.proofs.wide.Wide.blanks.Goals as goal

pub returns-in-Problem-clause-least : goal.returns-in-Problem-clause-least
returns-in-Problem-clause-least c = rw c.in-Problem.is (no_fewer_than_blanks c.in-Problem.problem c.blanks_of.result c.blanks_of.ensures.value)
