use Rattle.std.proofs.Common.{refl, arith}
use Rattle.lg_disj.specs.Outlines.{lists_on}
use Rattle.lg_member.proofs.Outlining.{sides_none, sides_more, sides_all}
use Rattle.lg_member.proofs.outlines.push_sides.Goals as goal

pub loop-number-init : goal.loop-number-init
loop-number-init c = sides_none c.args.position (lists_on c.args.right c.args.outline.now) c.args.sides.now.items

pub loop-number-preserved : goal.loop-number-preserved
loop-number-preserved c =
    sides_more c.args.position (lists_on c.args.right c.args.outline.now) c.loop-number.number c.args.sides.now.items c.loop-number.sides.items c.push.new.self.items _ refl c.list-list.ensures
    c.in_ok-push.ensures.items c.loop-number.invariant

pub returns-clause-sides : goal.returns-clause-sides
returns-clause-sides c =
    let after = c.loop-number-test.false in
    let within = c.loop-number.auto.number-end in
    let count = c.count-number-end.ensures in
    sides_all c.args.position (lists_on c.args.right c.args.outline.now) c.loop-number.number c.args.sides.now.items c.loop-number.sides.items (omega arith) c.loop-number.invariant
