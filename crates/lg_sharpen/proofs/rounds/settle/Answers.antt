use Rattle.std.proofs.Common.{true, false, sym, subst}
use Rattle.lg_sharpen.specs.Sites.{AreStartedAll, items_in}
use Rattle.lg_sharpen.proofs.Standing.{settled}
use Rattle.lg_sharpen.proofs.rounds.settle.Goals as goal

pub returns : goal.returns
returns c =
    settled c.args.words c.args.most c.args.lefts.now c.args.rights.now (items_in c.deref_mut.result.now) (items_in c.deref_mut-2.result.now) (items_in c.rounds.new.left_lists) (items_in c.rounds.new.right_lists)
    c.args.members.now.items c.rounds.new.members.items c.requires
    (subst (λ z. AreStartedAll false c.args.words c.args.lefts.now (items_in z)) (sym c.deref_mut.ensures.value) c.in_ok-left_lists.ensures)
    (subst (λ z. AreStartedAll true c.args.words c.args.rights.now (items_in z)) (sym c.deref_mut-2.ensures.value) c.in_ok-right_lists.ensures) c.in_ok-rounds.ensures
