use Rattle.std.proofs.Common.{◌≡◌, [], length}
use Rattle.std.specs.List.{All}
use Rattle.lg_member.proofs.cells.empty.Given as goal

abbrev pub invariant-loop-number : goal.invariant-loop-number
invariant-loop-number g l = (length l.cells.items ≡ l._number) × All (λ cell. cell.items ≡ []) l.cells.items
