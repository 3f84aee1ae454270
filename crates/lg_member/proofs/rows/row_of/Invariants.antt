use Rattle.std.proofs.Common.{◌≡◌, take}
use Rattle.lg_member.specs.Members.{row_at}
use Rattle.lg_member.proofs.rows.row_of.Given as goal

abbrev pub invariant-loop-member : goal.invariant-loop-member
invariant-loop-member l = l.row.items ≡ row_at (take l.member-index l.members) l.position
