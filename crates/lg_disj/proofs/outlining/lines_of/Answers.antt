use Rattle.std.proofs.Common.{arith}
use Rattle.lg_disj.specs.Lists.{lists_in}
use Rattle.lg_disj.specs.Places.{listed}
use Rattle.lg_disj.proofs.Lines.{made_next, all_made}
use Rattle.lg_disj.proofs.outlining.lines_of.Goals as goal

pub loop-number-preserved : goal.loop-number-preserved
loop-number-preserved c =
    let at = c.loop-number in (
      c.in_ok-left.ensures.lists,
      c.in_ok-right.ensures.lists,
      made_next c.args.leaves.now (lists_in at.lefts) (lists_in at.rights) (lists_in c.number_of.new.lists) (lists_in c.number_of-in-loop-number.new.lists)
          (listed c.args.kept.now.choices) at.number at.lines.items c.push.new.self.items _ (omega arith) at.invariant.2
          c.in_ok-left.ensures.number c.in_ok-right.ensures.number c.cost-cost.ensures c.in_ok-push.ensures.items,
    )

pub returns : goal.returns
returns c =
    let at = c.loop-number in
    record { lefts = at.invariant.0; rights = at.invariant.1; lines = all_made _ _ _ _ at.number _ (omega arith) at.invariant.2 }
