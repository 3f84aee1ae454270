use Rattle.std.proofs.Common.{arith}
use Rattle.lg_rules.proofs.Pairs.{crossing_least, crossing_none, planar_from}
use Rattle.lg_rules.proofs.checker.planarity.first_crossing.Goals as goal

-- this link has a partner, and none before it has one
pub returns-in-Some-clause-some : goal.returns-in-Some-clause-some
returns-in-Some-clause-some c = crossing_least c.args.links.now c.loop-m.m _ c.loop-m-test.true c.in-Some.n c.loop-m.invariant c.in-Some.ensures.some

-- nor has this one
pub loop-m-preserved : goal.loop-m-preserved
loop-m-preserved c = crossing_none c.args.links.now c.loop-m.m _ c.loop-m-test.true c.loop-m.invariant c.in_default.ensures.none

-- no link has one
pub returns-clause-none : goal.returns-clause-none
returns-clause-none c = planar_from c.args.links.now (λ a b less. c.loop-m.invariant a b (omega arith))
