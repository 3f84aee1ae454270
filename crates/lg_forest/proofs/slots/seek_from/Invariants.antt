-- the slots from the next one on have other keys
use Rattle.std.proofs.Common.{length}
use Rattle.lg_forest.specs.Slots.{keys_in}
use Rattle.lg_forest.proofs.Slotting.{IsSeeking}
use Rattle.lg_forest.proofs.slots.seek_from.Given as goal

abbrev pub invariant-loop-next : goal.invariant-loop-next
invariant-loop-next g l = IsSeeking g.K.Spread.spread (length l.heads) (keys_in l.slots) l.key l.next

abbrev pub decreases-loop-next : goal.decreases-loop-next
decreases-loop-next g l = l.next
