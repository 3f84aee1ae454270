use Rattle.lg_answer.specs.Wide.{problem_of}
use Rattle.lg_answer.proofs.Searching.{begins_wide}
use Rattle.lg_answer.proofs.search.Search.beside.Goals as goal

pub returns : goal.returns
returns c = begins_wide (problem_of c.args.wide) c.args.ranked c.requires.sharper
