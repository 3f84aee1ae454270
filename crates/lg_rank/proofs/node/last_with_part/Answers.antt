use Rattle.lg_rank.proofs.node.last_with_part.Goals as goal

pub with_part-requires-clause-holds : goal.with_part-requires-clause-holds
with_part-requires-clause-holds c = λ live. c.requires.holds c.in-Some.row c.in-Some.is
