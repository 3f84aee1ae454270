use Rattle.std.proofs.Common.{take}
use Rattle.lg_answer.specs.Steps.{AreWordTrees}
use Rattle.lg_answer.proofs.exprs.words_of.Given as goal

-- the words so far
abbrev pub invariant-loop-word : goal.invariant-loop-word
invariant-loop-word l = AreWordTrees l.view (take l.word-index l.words) l.all.items
