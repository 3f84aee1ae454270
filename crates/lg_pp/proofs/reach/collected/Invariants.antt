use Rattle.std.proofs.Common.{take}
use Rattle.lg_knowread.specs.declared.knowledge.Knowledge.{Knowledge}
use Rattle.lg_pp.specs.Domains.{InDomain}
use Rattle.lg_pp.specs.Reach.{AreFlags, Ignores, TellReach}
use Rattle.lg_pp.proofs.reach.collected.Given as goal

-- the flags of the links so far
abbrev pub invariant-loop-n : goal.invariant-loop-n
invariant-loop-n l = (know : Knowledge) → Ignores know l.g l.ignored → TellReach know l.g l.start l.islands → AreFlags (InDomain know l.g l.start) (take l.n l.link-items) l.flags.items
