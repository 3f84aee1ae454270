use Rattle.std.proofs.Common.{subst}
use Rattle.lg_sharpen.specs.Sites.{items_in}
use Rattle.lg_sharpen.specs.Bounds.{SetsNeeds}
use Rattle.lg_sharpen.proofs.Standing.{needs_kept}
use Rattle.lg_sharpen.proofs.needs.note_needs.Goals as goal

pub returns : goal.returns
returns c =
    let ll = items_in c.args.left_lists.now in
    let rl = items_in c.args.right_lists.now in
    let ll' = items_in c.set_needs.new.lists in
    let rl' = items_in c.set_needs-2.new.lists in
    needs_kept ll rl ll' rl' c.in_ok-left_needs.left_needs.items c.in_ok-right_needs.right_needs.items c.args.members.now c.in_ok-left_needs.ensures c.in_ok-right_needs.ensures
    (subst (λ z. SetsNeeds z ll ll') c.deref.ensures.value c.set_needs.ensures) (subst (λ z. SetsNeeds z rl rl') c.deref-2.ensures.value c.set_needs-2.ensures)
