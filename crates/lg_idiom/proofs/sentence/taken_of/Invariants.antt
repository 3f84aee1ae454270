use Rattle.lg_idiom.specs.Sentences.{HasTakenBefore}
use Rattle.lg_idiom.proofs.sentence.taken_of.Given as goal

-- what is taken of the chains that start before
abbrev pub invariant-loop-start : goal.invariant-loop-start
invariant-loop-start l = HasTakenBefore l.view l.tokens l.start l.taken
