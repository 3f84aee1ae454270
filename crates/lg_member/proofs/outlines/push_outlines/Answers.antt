use Rattle.lg_member.proofs.Outlining.{outlines_more}
use Rattle.lg_member.proofs.outlines.push_outlines.Goals as goal

pub loop-outline-preserved : goal.loop-outline-preserved
loop-outline-preserved c =
    outlines_more c.args.position c.args.outlines.now c.loop-outline.outline-index c.outline-item.result c.args.lefts.now.items c.args.rights.now.items c.loop-outline.lefts.items c.loop-outline.rights.items
    c.push_outline.new.lefts.items c.push_outline.new.rights.items c.args.members.now.items c.loop-outline.members.items c.push_outline.new.members.items c.loop-outline-test.true c.outline-item.is
    c.in_ok-push_outline.ensures.added c.loop-outline.invariant
