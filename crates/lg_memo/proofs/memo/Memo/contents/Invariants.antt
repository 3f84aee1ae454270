use Rattle.std.proofs.Common.{◌≡◌, ℕ, length}
use Rattle.std.specs.Prelude.{IsSomeAnd}
use mathlib.Core.Option.{some}
use lib.ListN.{get_elem?}
use Rattle.lg_memo.specs.Rule.{IsStored}
use Rattle.lg_memo.proofs.memo.Memo.contents.Given as goal

abbrev pub invariant-loop-number : goal.invariant-loop-number
invariant-loop-number g l =
    (length l.made.items ≡ l.number)
    × ((name : _) (shard : ℕ) (content : _) → get_elem? l.made.items shard ≡ some content → IsSomeAnd content (λ s. IsStored g.T.Fact.right name shard 0 s.number s.entries.items))
