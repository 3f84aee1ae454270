use Rattle.lg_text.specs.Painted.{AreKnown}
use Rattle.lg_text.proofs.drawing.heights.heights.Given as goal

abbrev pub invariant-loop-length : goal.invariant-loop-length
invariant-loop-length l = AreKnown l.links l.length l.heights.items
