use Rattle.lg_region.specs.Ways.{AddsExactly}
use Rattle.lg_region.proofs.Once.{OfPlace, Upto}
use Rattle.lg_region.proofs.Opened.{Begun}
use Rattle.lg_region.proofs.expand.push_level.Given as goal

abbrev pub invariant-loop-begin : goal.invariant-loop-begin
invariant-loop-begin l = AddsExactly l.fn.out.items l.out.items (Upto (OfPlace (Begun l.lists l.gap l.group) l.begin-items) l.begin-index)
