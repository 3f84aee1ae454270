use Rattle.std.proofs.Common.{◌≡◌, ◌<◌, take}
use Rattle.lg_eprune.specs.Cuts.{class_of}
use Rattle.lg_eprune.proofs.seen.class_of.Given as goal

abbrev pub invariant-loop-letter : goal.invariant-loop-letter
invariant-loop-letter l = (l.number ≡ class_of (take l.letter-index l.caps)) × (l.number < 256)
