use Rattle.lg_pp.specs.Steps.{AreClasses}
use Rattle.lg_pp.proofs.group.classes.Given as goal

-- the classes of the heads so far
abbrev pub invariant-loop-n : goal.invariant-loop-n
invariant-loop-n l = AreClasses l.leasts l.n l.classes.items
