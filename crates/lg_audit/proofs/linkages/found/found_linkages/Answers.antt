use Rattle.lg_gram.specs.Linkages.{Linkage}
use Rattle.lg_audit.proofs.Framed.{ones_more, ones_never}
use Rattle.lg_audit.proofs.Singles.{when_some, unless_some}
use Rattle.lg_audit.proofs.linkages.found.found_linkages.Goals as goal

pub returns-in_default-2 : goal.returns-in_default-2
returns-in_default-2 c =
    ones_never c.args.know.now c.args.view.now c.args.tokens.now c.args.items.now c.loop-item.item-index c.item-item.result c.loop-item-test.true c.item-item.is c.in-Some.shown.now c.in-Some.ensures
    (unless_some _ _ c.in_ok-g.field-0 c.in_default-2.not-Some c.in_ok-g.ensures)

pub loop-item-preserved : goal.loop-item-preserved
loop-item-preserved c =
    let g : Linkage = record { chosen = c.in-Some-2.g.chosen; links = c.in-Some-2.g.links } in
    ones_more c.args.know.now c.args.view.now c.args.tokens.now c.args.items.now c.loop-item.item-index c.item-item.result c.loop-item-test.true c.item-item.is c.loop-item.found.items c.push.new.self.items
    c.in-Some.shown.now g c.in-Some.ensures c.in_ok-push.ensures.items (when_some _ _ c.in_ok-g.field-0 _ c.in-Some-2.is c.in_ok-g.ensures) c.loop-item.invariant
