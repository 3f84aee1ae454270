use Rattle.std.proofs.Common.{subst, sym}
use Rattle.lg_memo.specs.Entries.{AreRight}
use Rattle.lg_forest.specs.Known.{AreKept}
use Rattle.lg_forest.proofs.Back.{all_but_last, pop_shorter}
use Rattle.lg_forest.proofs.workers.gathered.Goals as goal

pub add_all-requires-clause-right : goal.add_all-requires-clause-right
add_all-requires-clause-right c =
    let positions = c.args.lists.now.positions in
    let right = (all_but_last c.loop-shard.shards.items c.pop.new.self.items c.pop.result c.in-Some.shard c.pop.ensures.items c.in-Some.is (λ s. AreRight AreKept positions s.entries.items) c.loop-shard.invariant.1).0 in
    subst (λ l. AreRight AreKept positions l) (sym c.into_entries.ensures) right

pub loop-shard-preserved : goal.loop-shard-preserved
loop-shard-preserved c =
    let positions = c.args.lists.now.positions in
    (c.in_ok-add_all.ensures, (all_but_last c.loop-shard.shards.items c.pop.new.self.items c.pop.result c.in-Some.shard c.pop.ensures.items c.in-Some.is (λ s. AreRight AreKept positions s.entries.items) c.loop-shard.invariant.1).1)

pub loop-shard-smaller : goal.loop-shard-smaller
loop-shard-smaller c = pop_shorter c.loop-shard.shards.items c.pop.new.self.items c.pop.result c.in-Some.shard c.pop.ensures.items c.in-Some.is
