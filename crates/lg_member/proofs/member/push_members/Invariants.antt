use Rattle.std.proofs.Common.{take}
use Rattle.lg_member.specs.Members.{AddsMembers}
use Rattle.lg_member.proofs.member.push_members.Given as goal

abbrev pub invariant-loop-disjunct : goal.invariant-loop-disjunct
invariant-loop-disjunct l =
    AddsMembers l.position (take l.disjunct-index l.disjuncts) l.fn.lefts.items l.fn.rights.items l.lefts.items l.rights.items l.fn.members.items l.members.items
