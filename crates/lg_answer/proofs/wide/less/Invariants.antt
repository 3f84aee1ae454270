use Rattle.std.proofs.Common.{◌≡◌, ◌+◌, take, length}
use Rattle.lg_disj.specs.Outlines.{all_in}
use Rattle.lg_answer.proofs.wide.less.Given as goal

-- what is left, beside the disjuncts of the words so far
abbrev pub invariant-loop-outline : goal.invariant-loop-outline
invariant-loop-outline l = length (all_in (take l.outline-index l.outlines)) + l.rest ≡ l.left
