use Rattle.std.specs.Prelude.{[]}
use Rattle.lg_region.specs.Keys.{IsAltOfWhole}
use Rattle.lg_region.specs.Ways.{AddsExactly}
use Rattle.lg_region.proofs.Expanding.{OfWord}
use Rattle.lg_region.proofs.Once.{Upto}
use Rattle.lg_region.proofs.expand.of_whole.Given as goal

abbrev pub invariant-loop-word : goal.invariant-loop-word
invariant-loop-word l = AddsExactly [] l.out.items (Upto (OfWord l.lists.positions (IsAltOfWhole l.lists.positions l.lists.lists l.nulls)) l.word)
