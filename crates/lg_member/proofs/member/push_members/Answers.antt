use Rattle.std.proofs.Common.{refl, subst}
use Rattle.lg_member.specs.Members.{IsSideAt}
use Rattle.lg_member.proofs.Adding.{adds_more}
use Rattle.lg_member.proofs.member.push_members.Goals as goal

pub loop-disjunct-preserved : goal.loop-disjunct-preserved
loop-disjunct-preserved c =
    adds_more c.args.position c.args.disjuncts.now c.loop-disjunct.disjunct-index c.disjunct-item.result c.args.lefts.now.items c.args.rights.now.items c.loop-disjunct.lefts.items c.loop-disjunct.rights.items
    c.number_of.new.sides.items c.number_of-in-loop-disjunct.new.sides.items c.args.members.now.items c.loop-disjunct.members.items c.push.new.self.items _ c.loop-disjunct-test.true c.disjunct-item.is
    c.in_ok-left.ensures.grows c.in_ok-right.ensures.grows c.in_ok-push.ensures.items refl c.form_of.ensures
    (subst (λ z. IsSideAt c.number_of.new.sides.items c.in_ok-left.left c.args.position z) c.items.ensures c.in_ok-left.ensures.number)
    (subst (λ z. IsSideAt c.number_of-in-loop-disjunct.new.sides.items c.in_ok-right.right c.args.position z) c.items-in-loop-disjunct.ensures c.in_ok-right.ensures.number) c.loop-disjunct.invariant
