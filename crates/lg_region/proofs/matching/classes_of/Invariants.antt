use Rattle.std.proofs.Common.{◌≡◌, take}
use Rattle.lg_region.specs.Matching.{classes_of_kinds}
use Rattle.lg_region.proofs.matching.classes_of.Given as goal

abbrev pub invariant-loop-kind : goal.invariant-loop-kind
invariant-loop-kind l = l.classes.items ≡ classes_of_kinds (take l.kind-index l.kinds)
