use Rattle.std.proofs.Common.{arith}
use Rattle.lg_rules.proofs.Partners.{has_none, has_all}
use Rattle.lg_rules.proofs.list.candidates.candidates.Goals as goal

pub loop-left-init : goal.loop-left-init
loop-left-init c = rw c.new-out.ensures.items (record { those = has_none c.args.chosen.now; few = omega arith })

pub returns-clause-every : goal.returns-clause-every
returns-clause-every c = has_all c.args.chosen.now c.loop-left.out.items c.loop-left.left (omega arith) c.loop-left.invariant.those
