use Rattle.lg_region.specs.Openings.{IsIn}
use Rattle.lg_region.specs.Ways.{AddsExactly}
use Rattle.lg_region.proofs.Once.{OfPlace, Upto}
use Rattle.lg_region.proofs.expand.push_word.Given as goal

abbrev pub invariant-loop-group : goal.invariant-loop-group
invariant-loop-group l = AddsExactly l.fn.out.items l.out.items (Upto (OfPlace (IsIn l.lists l.gap) l.group-items) l.group-index)
