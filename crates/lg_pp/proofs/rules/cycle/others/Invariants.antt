use Rattle.std.proofs.Common.{◌≢◌, take}
use Rattle.lg_pp.proofs.Kept.{AreKept}
use Rattle.lg_pp.proofs.rules.cycle.others.Given as goal

-- the links so far but this one
abbrev pub invariant-loop-other : goal.invariant-loop-other
invariant-loop-other l = AreKept (λ m. m ≢ l.link) (take l.other-index l.other-items) l.links.items
