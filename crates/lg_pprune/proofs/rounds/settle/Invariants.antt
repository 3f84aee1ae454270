use Rattle.lg_pprune.proofs.Settling.{SettledSoFar}
use Rattle.lg_pprune.proofs.rounds.settle.Given as goal

abbrev pub invariant-loop-before : goal.invariant-loop-before
invariant-loop-before l = SettledSoFar l.words l.fn.members.items l.members.items l.before

abbrev pub decreases-loop-before : goal.decreases-loop-before
decreases-loop-before l = l.before
