use Rattle.std.proofs.Common.{map}
use Rattle.lg_disj.specs.Outlines.{all_in}
use Rattle.lg_member.specs.Members.{Grows}
use Rattle.lg_member.proofs.Adding.{MembersSoFar}
use Rattle.lg_member.proofs.outlines.members_in.Given as goal

abbrev pub invariant-loop-position : goal.invariant-loop-position
invariant-loop-position l = record {
  members : MembersSoFar (map all_in l.positions) l.position l.lefts.items l.rights.items l.members.items;
  lefts : Grows l.fn.lefts.items l.lefts.items;
  rights : Grows l.fn.rights.items l.rights.items;
}
