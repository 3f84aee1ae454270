use Rattle.std.proofs.Common.{◌≡◌, map, take}
use Rattle.lg_disj.specs.Outlines.{outlined, disjunct_on}
use Rattle.lg_disj.proofs.outline.disjuncts_of.Given as goal

abbrev pub invariant-loop-line : goal.invariant-loop-line
invariant-loop-line l = l.disjuncts.items ≡ map (disjunct_on (outlined l.word l.lefts l.rights l.lines)) (take l.line-index l.lines)
