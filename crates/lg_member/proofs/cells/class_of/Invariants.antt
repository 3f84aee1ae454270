use Rattle.std.proofs.Common.{◌≡◌, ◌<◌, take}
use Rattle.lg_member.specs.Cells.{class_of}
use Rattle.lg_member.proofs.cells.class_of.Given as goal

abbrev pub invariant-loop-letter : goal.invariant-loop-letter
invariant-loop-letter l = (l.number ≡ class_of (take l.letter-index l.caps)) × (l.number < 64)
