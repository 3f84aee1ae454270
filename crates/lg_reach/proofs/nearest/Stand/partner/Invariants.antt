use Rattle.lg_reach.specs.Partners.{MayEnd}
use Rattle.lg_reach.proofs.Meeting.{NoneBefore}
use Rattle.lg_reach.proofs.nearest.Stand.partner.Given as goal

abbrev pub invariant-loop-length : goal.invariant-loop-length
invariant-loop-length l = NoneBefore (MayEnd l.self l.known l.connector l.next.first) l.next.least l.length
