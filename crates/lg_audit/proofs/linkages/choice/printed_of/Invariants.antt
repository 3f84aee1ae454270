use Rattle.std.proofs.Common.{take, Contains}
use Rattle.lg_gram.specs.declared.disjunct.Disjunct.{Disjunct}
use Rattle.lg_audit.specs.Printed.{IsPrintedSo}
use Rattle.lg_audit.proofs.linkages.choice.printed_of.Given as goal

-- none so far is printed so
abbrev pub invariant-loop-disjunct : goal.invariant-loop-disjunct
invariant-loop-disjunct l = (d : Disjunct) → Contains (take l.disjunct-index l.disjuncts) d → IsPrintedSo l.left l.right l.cost d → ⊥
