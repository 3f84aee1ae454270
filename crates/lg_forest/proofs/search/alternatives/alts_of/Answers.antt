use Rattle.lg_forest.proofs.search.alternatives.alts_of.Goals as goal

pub returns-in-Some-clause-alts : goal.returns-in-Some-clause-alts
returns-in-Some-clause-alts g c = c.requires.known c.args.key c.in-Some.alts c.in-Some.ensures.taken.0 c.requires.key

pub returns-in-Some-clause-kept : goal.returns-in-Some-clause-kept
returns-in-Some-clause-kept g c = λ k alts has. c.requires.known k alts (c.take.ensures.left k alts has)

pub returns-clause-kept : goal.returns-clause-kept
returns-clause-kept g c = λ k alts has. c.requires.known k alts (c.take.ensures.left k alts has)
