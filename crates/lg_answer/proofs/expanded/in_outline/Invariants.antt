use Rattle.std.proofs.Common.{map, take}
use Rattle.std.specs.List.{AllZip}
use Rattle.lg_disj.specs.Outlines.{all_in}
use Rattle.lg_answer.specs.Steps.{AreMade}
use Rattle.lg_answer.proofs.expanded.in_outline.Given as goal

-- the disjuncts of the positions so far
abbrev pub invariant-loop-words : goal.invariant-loop-words
invariant-loop-words l = AllZip AreMade (take l.words-index l.positions) (map all_in l.all.items)
