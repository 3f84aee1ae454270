use Rattle.std.proofs.Common.{◌≡◌, ◌+◌, map, take, length}
use Rattle.std.specs.List.{sum_by}
use Rattle.lg_disj.specs.Outlines.{all_in}
use Rattle.lg_gram.specs.Limits.{DISJUNCTS}
use Rattle.lg_answer.proofs.wide.are_few.Given as goal

-- what is left, beside the disjuncts of the positions so far
abbrev pub invariant-loop-outlines : goal.invariant-loop-outlines
invariant-loop-outlines l = sum_by length (map all_in (take l.outlines-index l.positions)) + l.left ≡ DISJUNCTS
