use Rattle.std.proofs.Common.{arith}
use Rattle.lg_rules.proofs.Partners.{has_start, has_all_from}
use Rattle.lg_rules.proofs.list.candidates.push_from.Goals as goal

pub loop-right-init : goal.loop-right-init
loop-right-init c = record {
  those = has_start c.args.chosen.now c.args.out.now.items c.args.left c.requires.before;
  few = omega arith;
}

pub returns-clause-after : goal.returns-clause-after
returns-clause-after c =
    has_all_from c.args.chosen.now c.loop-right.out.items c.args.left c.loop-right.right (omega arith) c.loop-right.invariant.those
