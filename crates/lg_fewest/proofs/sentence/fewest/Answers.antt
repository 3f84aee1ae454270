use Rattle.std.proofs.Common.{subst}
use Rattle.lg_gram.specs.Levels.{IsFewest}
use Rattle.lg_fewest.proofs.Whole.{none_known}
use Rattle.lg_fewest.proofs.sentence.fewest.Goals as goal

pub over_firsts-requires-clause-law : goal.over_firsts-requires-clause-law
over_firsts-requires-clause-law c = c.sums_decide.ensures c.in_ok-lists.lists.positions c.in_ok-lists.lists.lists c.are_numbered.ensures

pub over_firsts-requires-clause-table : goal.over_firsts-requires-clause-table
over_firsts-requires-clause-table c = none_known c.in_ok-lists.lists c.new-table.result c.new-table.ensures

pub returns : goal.returns
returns c = subst (λ z. IsFewest z c.in_ok-fewest.fewest) c.in_ok-lists.ensures.positions c.in_ok-fewest.ensures
