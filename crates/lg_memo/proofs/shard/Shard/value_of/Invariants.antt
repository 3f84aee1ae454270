use Rattle.std.proofs.Common.{◌≡◌, drop}
use Rattle.lg_memo.specs.Entries.{has_key}
use Rattle.lg_memo.proofs.shard.Shard.value_of.Given as goal

abbrev pub invariant-loop-entry : goal.invariant-loop-entry
invariant-loop-entry g l = has_key g.T.Fact.same (drop l.entry-index l.entry-items) l.key ≡ has_key g.T.Fact.same l.entry-items l.key
