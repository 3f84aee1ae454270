use Rattle.std.proofs.Common.{arith}
use Rattle.lg_gram.specs.Connectors.{connector_cmp}
use Rattle.lg_disj.proofs.Ranked.{connector_total, rank_pushed, are_ranks}
use Rattle.lg_disj.proofs.ranks.ranks_of.Goals as goal

pub loop-leaf-preserved : goal.loop-leaf-preserved
loop-leaf-preserved c =
    let at = c.loop-leaf in
    rank_pushed connector_cmp connector_total c.in_ok-sorted.sorted.items c.args.leaves.now at.ranks.items c.push.new.self.items c.rank_in.result at.leaf-index c.leaf-item.result
    c.loop-leaf-test.true at.invariant c.in_ok-push.ensures.items c.leaf-item.is (rw c.deref.ensures.value at c.rank_in.ensures)

pub returns : goal.returns
returns c =
    let at = c.loop-leaf in
    are_ranks connector_cmp connector_total c.args.leaves.now c.in_ok-sorted.sorted.items at.ranks.items at.leaf-index c.in_ok-sorted.ensures.moved (omega (arith, c.loop-leaf-test.false)) at.invariant
