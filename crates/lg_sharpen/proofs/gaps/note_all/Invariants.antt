use Rattle.std.specs.Prelude.{IfSome}
use Rattle.lg_sharpen.specs.Sites.{items_in}
use Rattle.lg_sharpen.specs.Filling.{IsNoted}
use Rattle.lg_sharpen.proofs.Rows.{NotedUpTo}
use Rattle.lg_sharpen.proofs.gaps.note_all.Given as goal

abbrev pub invariant-loop-member : goal.invariant-loop-member
invariant-loop-member l = NotedUpTo (items_in l.left_lists) (items_in l.right_lists) l.members l.member-index l.ways × IfSome l.last (λ w. IsNoted w l.ways)
