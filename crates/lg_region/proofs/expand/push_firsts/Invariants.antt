use Rattle.lg_region.specs.Ways.{AddsExactly}
use Rattle.lg_region.proofs.Expanding.{OfFirst}
use Rattle.lg_region.proofs.Once.{Upto}
use Rattle.lg_region.proofs.expand.push_firsts.Given as goal

abbrev pub invariant-loop-number : goal.invariant-loop-number
invariant-loop-number l = AddsExactly l.fn.out.items l.out.items (Upto (OfFirst l.lists l.nulls l.word) l.number)
