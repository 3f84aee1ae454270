use Rattle.lg_region.specs.Ways.{AddsExactly}
use Rattle.lg_region.proofs.Once.{Upto}
use Rattle.lg_region.proofs.Opened.{OfLevel}
use Rattle.lg_region.proofs.expand.push_group.Given as goal

abbrev pub invariant-loop-nulls : goal.invariant-loop-nulls
invariant-loop-nulls l = AddsExactly l.fn.out.items l.out.items (Upto (OfLevel l.lists l.gap l.group) l.nulls)
