use Rattle.lg_lex.proofs.RunLists.{runs_of-AreRuns, AreRuns-runs_of}
use Rattle.lg_lex.proofs.laws.runs_are_one_list.Goals as goal

pub returns-clause-cut : goal.returns-clause-cut
returns-clause-cut c = runs_of-AreRuns

pub returns-clause-one : goal.returns-clause-one
returns-clause-one c = AreRuns-runs_of
