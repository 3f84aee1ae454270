use Rattle.std.proofs.Common.{◌≡◌, ◌<◌, take}
use Rattle.lg_region.specs.Chains.{class_of_caps}
use Rattle.lg_region.proofs.chains.class_of_caps.Given as goal

abbrev pub invariant-loop-letter : goal.invariant-loop-letter
invariant-loop-letter l = (l.class ≡ class_of_caps (take l.letter-index l.caps)) × (l.class < 256)
