use Rattle.lg_usage.proofs.Bounding.{uses_are_few, totals_are_few}
use Rattle.lg_usage.proofs.law.totals_are_few.Goals as goal

pub returns-clause-uses : goal.returns-clause-uses
returns-clause-uses c = uses_are_few

pub returns-clause-totals : goal.returns-clause-totals
returns-clause-totals c = totals_are_few
