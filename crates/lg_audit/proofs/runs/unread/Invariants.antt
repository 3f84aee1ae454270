use Rattle.std.proofs.Common.{◌≡◌, ◌++◌, length}
use Rattle.std.specs.List.{AllByRecursion, flat_map}
use Rattle.lg_text.specs.Shown.{closed}
use Rattle.lg_audit.specs.Lines.{IsUnread}
use Rattle.lg_audit.specs.Views.{texts}
use Rattle.lg_audit.proofs.runs.unread.Given as goal

-- the lines so far, and what is left
abbrev pub invariant-loop-line : goal.invariant-loop-line
invariant-loop-line l = record {
  form : AllByRecursion (IsUnread l.beginning) (texts l.lines.items);
  read : l.text ≡ flat_map closed (texts l.lines.items) ++ l.left;
}

abbrev pub decreases-loop-line : goal.decreases-loop-line
decreases-loop-line l = length l.left
