use Rattle.std.proofs.Common.{arith}
use Rattle.lg_sharpen.specs.Filling.{rows_in}
use Rattle.lg_sharpen.proofs.Counting.{stuck_all}
use Rattle.lg_sharpen.proofs.gaps.stuck_row.Goals as goal

pub returns : goal.returns
returns c =
    let at = c.loop-before in
    let long = at.invariant.1 in
    let past = c.loop-before-test.false in
    stuck_all c.args.right (rows_in c.args.least.now) c.args.position at.before at.counts.items (omega (arith, long, past))
    (λ is. let few = c.lengths_of-lengths.ensures is in omega (arith, long, few)) at.invariant.0
