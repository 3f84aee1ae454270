use Rattle.std.proofs.Common.{arith}
use Rattle.lg_disj.specs.Ranks.{lent_cmp}
use Rattle.lg_disj.proofs.Ranked.{lent_total, rank_pushed_at, are_ranks}
use Rattle.lg_disj.proofs.numbers.ranks_of_lists.Goals as goal

pub loop-list-preserved : goal.loop-list-preserved
loop-list-preserved c =
    let at = c.loop-list in
    rank_pushed_at lent_cmp lent_total c.in_ok-sorted.sorted.items c.args.lists.now at.ranks.items c.push.new.self.items c.rank_of_list.result at.list-index _
    c.loop-list-test.true at.invariant c.in_ok-push.ensures.items (rw c.deref.ensures.value at c.rank_of_list.ensures)

pub returns : goal.returns
returns c =
    let at = c.loop-list in
    are_ranks lent_cmp lent_total c.args.lists.now c.in_ok-sorted.sorted.items at.ranks.items at.list-index c.in_ok-sorted.ensures.moved (omega (arith, c.loop-list-test.false)) at.invariant
