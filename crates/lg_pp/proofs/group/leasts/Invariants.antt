use Rattle.std.proofs.Common.{take}
use Rattle.lg_pp.specs.Steps.{AreAlike, AreLeasts}
use Rattle.lg_pp.proofs.group.leasts.Given as goal

-- the least links by the rows so far
abbrev pub invariant-loop-row : goal.invariant-loop-row
invariant-loop-row l = AreLeasts (AreAlike (take l.row-index l.rows)) l.count l.leasts.items
