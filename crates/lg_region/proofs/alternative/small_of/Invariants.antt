use Rattle.std.proofs.Common.{◌≡◌, map, take}
use Rattle.lg_region.specs.Small.{full}
use Rattle.lg_region.proofs.alternative.small_of.Given as goal

abbrev pub invariant-loop-alt : goal.invariant-loop-alt
invariant-loop-alt l = map full l.items.items ≡ take l.alt-index l.alts
