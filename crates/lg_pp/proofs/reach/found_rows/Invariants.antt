use Rattle.std.proofs.Common.{take}
use Rattle.std.specs.List.{AllZip}
use Rattle.lg_knowread.specs.declared.knowledge.Knowledge.{Knowledge}
use Rattle.lg_pp.specs.Reach.{AreFlags, Ignores, IsRow, IsStart}
use Rattle.lg_pp.proofs.reach.found_rows.Given as goal

-- the rows of the links so far
abbrev pub invariant-loop-n : goal.invariant-loop-n
invariant-loop-n l = (know : Knowledge) → Ignores know l.g l.ignored → AreFlags (IsStart know l.g) l.g.links l.starts → AllZip (IsRow know l.g) (take l.n l.start-items) l.rows.items
