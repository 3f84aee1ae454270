use Rattle.std.proofs.Common.{All, take}
use Rattle.lg_answer.specs.Steps.{AreNamed}
use Rattle.lg_answer.proofs.exprs.see_positions.Given as goal

-- so have those of the positions so far
abbrev pub invariant-loop-words : goal.invariant-loop-words
invariant-loop-words l = All AreNamed (take l.words-index l.positions)
