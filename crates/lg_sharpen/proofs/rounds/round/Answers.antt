use Rattle.std.proofs.Common.{true, false, length, subst}
use Rattle.lg_sharpen.specs.Sites.{IsTableOf, items_in}
use Rattle.lg_sharpen.specs.Filling.{AreGaps}
use Rattle.lg_member.specs.Members.{AreUsed, Keeps, are_on}
use Rattle.lg_sharpen.proofs.Standing.{round_keeps}
use Rattle.lg_sharpen.proofs.Under.{allows_gaps}
use Rattle.lg_sharpen.proofs.rounds.round.Goals as goal

pub returns : goal.returns
returns c =
    let lefts = c.args.lefts.now in
    let rights = c.args.rights.now in
    let ms = c.args.members.now.items in
    let lu = c.in_ok-left_used.left_used.items in
    let ru = c.in_ok-right_used.right_used.items in
    let ll = items_in c.args.left_lists.now in
    let rl = items_in c.args.right_lists.now in
    let ll' = items_in c.narrow_all-2.new.lists in
    let rl' = items_in c.narrow_all.new.lists in
    let gaps = c.in_ok-gaps.gaps in
    let lt = c.in_ok-left_sites.left_sites in
    let rt = c.in_ok-right_sites.right_sites in
    let lo = c.in_ok-left_open.left_open.items in
    let ro = c.in_ok-right_open.right_open.items in
    round_keeps c.args.words c.args.most lefts rights ll rl ll' rl' gaps lt rt ms c.keep.new.members.items lu ru lo ro c.requires.known
    (allows_gaps c.args.words c.args.most ll rl ms gaps (subst (λ z. AreGaps c.args.words c.args.most ll rl z gaps) c.deref-3.ensures.value c.in_ok-gaps.ensures))
    (subst (λ z. AreUsed false (length lefts) z lu) c.deref.ensures.value c.in_ok-left_used.ensures)
    (subst (λ z. AreUsed true (length rights) z ru) c.deref-2.ensures.value c.in_ok-right_used.ensures)
    (subst (λ z. IsTableOf lefts z ll lt) c.deref-4.ensures.value c.in_ok-left_sites.ensures)
    c.narrow_all.ensures
    (subst (λ z. IsTableOf rights z rl' rt) c.deref-6.ensures.value c.in_ok-right_sites.ensures)
    c.narrow_all-2.ensures
    c.in_ok-left_open.ensures c.in_ok-right_open.ensures
    (subst (λ z. Keeps (are_on z ro) ms c.keep.new.members.items) c.deref-8.ensures.value (subst (λ z. Keeps (are_on c.deref-8.result.now z) ms c.keep.new.members.items) c.deref-9.ensures.value c.keep.ensures))
