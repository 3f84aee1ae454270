use Rattle.lg_text.proofs.Heights.{AreRaised}
use Rattle.lg_text.proofs.drawing.heights.raise.Given as goal

abbrev pub invariant-loop-i : goal.invariant-loop-i
invariant-loop-i l = AreRaised l.links l.length l.i l.heights
