use Rattle.std.proofs.Common.{◌+◌, ◌-◌}
use Rattle.lg_audit.proofs.Chains.{IsChain}
use Rattle.lg_audit.proofs.Numbered.{keys, IsEdit, lines_at}
use Rattle.lg_audit.proofs.journal.read_edits.Given as goal

-- the edits so far, and what is left
abbrev pub invariant-loop-index : goal.invariant-loop-index
invariant-loop-index l = record {
  chain : IsChain IsEdit lines_at (keys l.count) l.text (l.index + 1) (keys (l.count - l.index)) l.journal.items l.left;
}
