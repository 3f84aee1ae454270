use Rattle.std.proofs.Common.{length, cond}
use Rattle.lg_member.proofs.Using.{used_more, below_at}
use Rattle.lg_member.proofs.uses.used.Goals as goal

pub loop-member-preserved : goal.loop-member-preserved
loop-member-preserved c =
    used_more c.args.right (length (cond c.args.right c.args.rights.now c.args.lefts.now)) c.args.members.now c.loop-member.member-index c.member-item.result c.side.result c.loop-member.used.items c.loop-member-test.true c.member-item.is
    c.side.ensures (below_at c.args.right c.args.lefts.now c.args.rights.now c.args.members.now c.loop-member.member-index c.member-item.result c.side.result c.loop-member-test.true c.member-item.is c.side.ensures c.requires)
    c.loop-member.invariant
