use Rattle.std.proofs.Common.{take}
use Rattle.lg_answer.specs.Steps.{AreWordTreesFor}
use Rattle.lg_answer.proofs.exprs.exprs_of.Given as goal

-- the words of the tokens so far
abbrev pub invariant-loop-token : goal.invariant-loop-token
invariant-loop-token l = AreWordTreesFor l.view (take l.token-index l.tokens) l.positions.items
