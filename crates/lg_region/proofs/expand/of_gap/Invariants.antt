use Rattle.std.specs.Prelude.{[]}
use Rattle.lg_region.specs.Groups.{region_of_gap}
use Rattle.lg_region.specs.Keys.{IsAltOfRegion}
use Rattle.lg_region.specs.Ways.{AddsExactly}
use Rattle.lg_region.proofs.Expanding.{OfWord}
use Rattle.lg_region.proofs.Once.{Upto}
use Rattle.lg_region.proofs.expand.of_gap.Given as goal

abbrev pub invariant-loop-word : goal.invariant-loop-word
invariant-loop-word l = AddsExactly [] l.out.items (Upto (OfWord l.lists.positions (IsAltOfRegion l.lists.positions l.lists.lists (region_of_gap l.lists.lists l.gap))) l.word)
