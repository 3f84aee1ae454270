use Rattle.lg_log.proofs.Splitting.{starts, sessions_differ, left_is, given_is, passes_are}
use Rattle.lg_log.proofs.pass.Pass.deal.Goals as goal

pub split-requires-clause-start : goal.split-requires-clause-start
split-requires-clause-start c = starts c.args.log.now c.loop.self c.loop.counter c.args.sessions c.loop-test.true c.loop.invariant.0

pub split-requires-clause-distinct : goal.split-requires-clause-distinct
split-requires-clause-distinct c = sessions_differ c.args.log.now c.loop.self c.loop.counter c.args.sessions c.loop-test.true c.loop.invariant.0

pub loop-preserved : goal.loop-preserved
loop-preserved c =
    let log = c.args.log.now in
    let left = left_is log c.loop.self c.loop.counter c.args.sessions c.loop-test.true c.loop.invariant.0 c.split.new.self c.split.ensures.left in
    let given = given_is log c.loop.self c.loop.counter c.args.sessions c.loop-test.true c.loop.invariant.0 c.split.result c.split.ensures.given in
    (left, passes_are log c.loop.counter c.loop.passes.items c.push.new.self.items c.split.result c.loop.invariant.1 c.in_ok-push.ensures.items given)
