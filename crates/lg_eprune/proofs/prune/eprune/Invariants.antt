use Rattle.lg_eprune.proofs.Final.{IsForward}
use Rattle.lg_eprune.proofs.Sweeps.{size}
use Rattle.lg_eprune.proofs.prune.eprune.Given as goal

abbrev pub invariant-loop-positions : goal.invariant-loop-positions
invariant-loop-positions l = IsForward l.fn.positions l.kept.items

abbrev pub decreases-loop-positions : goal.decreases-loop-positions
decreases-loop-positions l = size l.kept.items
