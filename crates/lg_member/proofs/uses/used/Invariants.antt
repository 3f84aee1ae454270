use Rattle.std.proofs.Common.{take, length, cond}
use Rattle.lg_member.specs.Members.{AreUsed}
use Rattle.lg_member.proofs.uses.used.Given as goal

abbrev pub invariant-loop-member : goal.invariant-loop-member
invariant-loop-member l = AreUsed l.right (length (cond l.right l.rights l.lefts)) (take l.member-index l.members) l.used.items
