use Rattle.lg_disj.specs.Outlines.{lists_on}
use Rattle.lg_member.proofs.Outlining.{SidesSoFar}
use Rattle.lg_member.proofs.outlines.push_sides.Given as goal

abbrev pub invariant-loop-number : goal.invariant-loop-number
invariant-loop-number l = SidesSoFar l.position (lists_on l.right l.outline) l.number l.fn.sides.items l.sides.items
