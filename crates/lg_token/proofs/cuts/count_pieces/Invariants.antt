use Rattle.std.proofs.Common.{length}
use Rattle.lg_token.proofs.Counting.{CountsOff}
use Rattle.lg_token.proofs.cuts.count_pieces.Given as goal

abbrev pub invariant-loop-off : goal.invariant-loop-off
invariant-loop-off l = CountsOff l.view l.initial' l.chunk l.rest l.count

abbrev pub decreases-loop-off : goal.decreases-loop-off
decreases-loop-off l = length l.rest
