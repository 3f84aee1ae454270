use Rattle.lg_sharpen.specs.Filling.{rows_in}
use Rattle.lg_sharpen.proofs.Counting.{CountedTo}
use Rattle.lg_sharpen.proofs.gaps.count_word.Given as goal

abbrev pub invariant-loop-length : goal.invariant-loop-length
invariant-loop-length l = CountedTo l.right (rows_in l.least) l.position l.before l.length l.fn.counts l.counts
