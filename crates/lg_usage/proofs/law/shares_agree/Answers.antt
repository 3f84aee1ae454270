use Rattle.lg_usage.proofs.Agreeing.{gives_totals, totals_are_equal, counts_decide, shares_agree, totals_grow}
use Rattle.lg_usage.proofs.law.shares_agree.Goals as goal

pub returns-clause-agree : goal.returns-clause-agree
returns-clause-agree c = shares_agree

pub returns-clause-given : goal.returns-clause-given
returns-clause-given c = gives_totals

pub returns-clause-equal : goal.returns-clause-equal
returns-clause-equal c = totals_are_equal

pub returns-clause-counts : goal.returns-clause-counts
returns-clause-counts c = counts_decide

pub returns-clause-grow : goal.returns-clause-grow
returns-clause-grow c = totals_grow
