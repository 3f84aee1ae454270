use Rattle.lg_sharpen.specs.Sites.{items_in}
use Rattle.lg_sharpen.proofs.Away.{NeedsUpTo}
use Rattle.lg_sharpen.proofs.needs.note_far.Given as goal

abbrev pub invariant-loop-member : goal.invariant-loop-member
invariant-loop-member l = NeedsUpTo l.right (items_in l.others) l.members l.member-index l.needs
