use Rattle.std.proofs.Common.{take}
use Rattle.lg_answer.specs.Steps.{AreNamed}
use Rattle.lg_answer.proofs.exprs.see_words.Given as goal

-- so have those so far
abbrev pub invariant-loop-word : goal.invariant-loop-word
invariant-loop-word l = AreNamed (take l.word-index l.words)
