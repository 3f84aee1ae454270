use Rattle.lg_rules.specs.Places.{linkage_of}
use Rattle.lg_rules.proofs.Served.{unsatisfied_least, counts_more, side_served}
use Rattle.std.proofs.Common.{sym, subst}
use Rattle.std.proofs.lemmas.Bool.{false≢true}
use Rattle.lg_rules.specs.Checks.{IsCount}
use Rattle.lg_rules.proofs.checker.satisfaction.first_of_side.Goals as goal

-- this connector has another number of links, and all before it as many as they may
pub returns-then-not-may_have-clause-some : goal.returns-then-not-may_have-clause-some
returns-then-not-may_have-clause-some c =
    let a = c.args in
    unsatisfied_least (linkage_of a.chosen.now a.links.now) a.position a.right c.side-connector-items.result.now c.side-connector-items.ensures
    c.loop-place.place c.loop-place.invariant c.links_are_ordered.ensures.total c.requires.rise c.connector-item.result c.loop-place-test.true c.connector-item.is
    (λ holds. false≢true (c.if-not-may_have.ensures.1 (subst (λ n. IsCount c.connector-item.result.multi n) (sym c.count_at.ensures) holds)))

-- this connector has as many as it may
pub loop-place-preserved : goal.loop-place-preserved
loop-place-preserved c =
    let a = c.args in
    counts_more (linkage_of a.chosen.now a.links.now) a.position a.right c.side-connector-items.result.now c.side-connector-items.ensures
    c.loop-place.place c.loop-place.invariant c.connector-item.result c.loop-place-test.true c.connector-item.is
    (subst (λ n. IsCount c.connector-item.result.multi n) c.count_at.ensures (c.may_have.ensures.0 c.if-not-may_have.false))

-- all of the side have
pub returns-clause-none : goal.returns-clause-none
returns-clause-none c =
    let a = c.args in
    side_served (linkage_of a.chosen.now a.links.now) a.position a.right c.side-connector-items.result.now c.side-connector-items.ensures
    c.loop-place.place c.loop-place.invariant c.loop-place-test.false
