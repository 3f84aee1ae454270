use Rattle.lg_disj.specs.Outlines.{all_in}
use Rattle.lg_answer.proofs.Made.{ListedTo}
use Rattle.lg_answer.proofs.expanded.outlines_of.Given as goal

-- the disjuncts of the words so far
abbrev pub invariant-loop-word : goal.invariant-loop-word
invariant-loop-word l = ListedTo l.words l.word-index (all_in l.outlines.items)
