use Rattle.std.proofs.Common.{arith}
use Rattle.lg_sharpen.proofs.Narrowing.{none_before, none_from}
use Rattle.lg_sharpen.proofs.narrow.last.Goals as goal

pub loop-end-init : goal.loop-end-init
loop-end-init c = λ d w g from has. omega arith

pub loop-end-preserved : goal.loop-end-preserved
loop-end-preserved c =
    none_before c.args.right c.args.most c.args.gaps.now c.args.position c.args.table.now.cells.now c.args.site.now c.loop-end.end c.saturating_add-second.result c.has_partner.result c.loop-end-test.true c.has_partner.ensures c.if-has_partner.false c.loop-end.invariant

pub returns-then-has_partner : goal.returns-then-has_partner
returns-then-has_partner c = none_from c.args.right c.args.most c.args.gaps.now c.args.position c.args.table.now.cells.now c.args.site.now c.loop-end.end c.loop-end.invariant

pub returns : goal.returns
returns c = none_from c.args.right c.args.most c.args.gaps.now c.args.position c.args.table.now.cells.now c.args.site.now c.loop-end.end c.loop-end.invariant
