use Rattle.std.proofs.Common.{All, length}
use Rattle.lg_memo.specs.Entries.{AreRight}
use Rattle.lg_forest.specs.Known.{AreKept, AreKnown}
use Rattle.lg_forest.proofs.workers.gathered.Given as goal

-- what is left is right, and so is what is known
abbrev pub invariant-loop-shard : goal.invariant-loop-shard
invariant-loop-shard l = AreKnown l.lists l.known × All (λ s. AreRight AreKept l.lists.positions s.entries.items) l.shards.items

abbrev pub decreases-loop-shard : goal.decreases-loop-shard
decreases-loop-shard l = length l.shards.items
