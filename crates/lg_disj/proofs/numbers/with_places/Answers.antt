use Rattle.std.proofs.Common.{arith}
use Rattle.lg_disj.proofs.Numbering.{none_placed, one_more, all_placed}
use Rattle.lg_disj.proofs.numbers.with_places.Goals as goal

pub loop-row-init : goal.loop-row-init
loop-row-init c = none_placed c.args.ranked.now c.args.rows.now c.args.lists.now.keys c.in_ok-numbered.numbered.items c.in_ok-numbered.ensures.items

pub loop-row-preserved : goal.loop-row-preserved
loop-row-preserved c =
    let at = c.loop-row in
    one_more c.args.ranked.now c.args.rows.now at.row-index c.row-item.result at.lists.keys c.place_of.new.lists.keys c.place_of-in-loop-row.new.lists.keys
    at.numbered.items c.push.new.self.items c.part_or.result.now c.part_or-in-loop-row.result.now
    c.in_ok-left.left c.in_ok-right.right c.loop-row-test.true c.row-item.is c.part_or.ensures c.part_or-in-loop-row.ensures
    c.in_ok-left.ensures c.in_ok-right.ensures c.in_ok-push.ensures.items at.invariant

pub returns : goal.returns
returns c =
    let at = c.loop-row in
    all_placed c.args.ranked.now c.args.rows.now at.row-index at.lists.keys at.numbered.items (omega (arith, c.loop-row-test.false)) at.invariant
