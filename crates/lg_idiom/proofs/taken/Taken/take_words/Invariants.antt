use Rattle.std.proofs.Common.{take}
use Rattle.lg_idiom.specs.Sentences.{chains_from}
use Rattle.lg_idiom.specs.Takings.{TakesMore}
use Rattle.lg_idiom.proofs.taken.Taken.take_words.Given as goal

-- what is taken of the compounds so far
abbrev pub invariant-loop-rank : goal.invariant-loop-rank
invariant-loop-rank l = TakesMore (chains_from l.view l.start 0 (take l.rank l.words)) l.fn.self l.self
