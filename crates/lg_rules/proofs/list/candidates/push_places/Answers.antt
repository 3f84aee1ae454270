use Rattle.lg_rules.proofs.Partners.{has_all_places}
use Rattle.lg_rules.proofs.list.candidates.push_places.Goals as goal

pub returns-clause-after : goal.returns-clause-after
returns-clause-after c =
    has_all_places c.args.chosen.now c.loop-lplace.out.items c.args.left c.args.right c.loop-lplace.lplace
    (rw c.right_at.ensures.value at c.loop-lplace-test.false) c.loop-lplace.invariant.those
