use Rattle.std.proofs.Common.{length}
use Rattle.lg_memo.specs.Entries.{AreRight}
use Rattle.lg_forest.specs.Known.{AreKept, AreKnown}
use Rattle.lg_forest.proofs.workers.add_all.Given as goal

-- what is left is right, and so is what is known
abbrev pub invariant-loop-entry : goal.invariant-loop-entry
invariant-loop-entry l = AreKnown l.lists l.known × AreRight AreKept l.lists.positions l.entries.items

abbrev pub decreases-loop-entry : goal.decreases-loop-entry
decreases-loop-entry l = length l.entries.items
