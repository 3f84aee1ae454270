use Rattle.lg_sharpen.proofs.Narrowing.{none_more, none_below, none_at_all}
use Rattle.lg_sharpen.proofs.narrow.first.Goals as goal

pub loop-distance-preserved : goal.loop-distance-preserved
loop-distance-preserved c =
    none_more c.args.right c.args.most c.args.gaps.now c.args.position c.args.table.now.cells.now c.args.site.now c.loop-distance.distance c.has_partner.result c.has_partner.ensures c.if-has_partner.false c.loop-distance.invariant

pub returns-then-has_partner : goal.returns-then-has_partner
returns-then-has_partner c = none_below c.args.right c.args.most c.args.gaps.now c.args.position c.args.table.now.cells.now c.args.site.now c.loop-distance.distance c.loop-distance.invariant

pub returns : goal.returns
returns c = none_at_all c.args.right c.args.most c.args.gaps.now c.args.position c.args.table.now.cells.now c.args.site.now c.loop-distance.distance c.loop-distance-test.false c.loop-distance.invariant
