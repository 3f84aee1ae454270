use Rattle.lg_answer.specs.Wide.{HasNoFewer, problem_of}
use Rattle.lg_answer.proofs.search.sharper.Given as goal

abbrev pub invariant-loop-nulls : goal.invariant-loop-nulls
invariant-loop-nulls g l = HasNoFewer (problem_of l.wide) l.nulls
