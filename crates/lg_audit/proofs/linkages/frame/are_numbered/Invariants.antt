use Rattle.lg_audit.proofs.Framed.{AreFrom}
use Rattle.lg_audit.proofs.linkages.frame.are_numbered.Given as goal

abbrev pub invariant-loop-i : goal.invariant-loop-i
invariant-loop-i l = AreFrom l.from l.items l.i
