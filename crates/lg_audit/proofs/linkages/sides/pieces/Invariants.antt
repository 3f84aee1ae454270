use Rattle.std.proofs.Common.{◌≡◌, ◌++◌, length}
use Rattle.std.specs.List.{AllByRecursion, flat_map}
use Rattle.lg_audit.specs.Pieces.{Lacks}
use Rattle.lg_audit.specs.Views.{texts}
use Rattle.lg_audit.proofs.PieceLists.{behind_commas}
use Rattle.lg_audit.proofs.linkages.sides.pieces.Given as goal

-- the pieces so far, each with its comma, and what is left
abbrev pub invariant-loop-piece : goal.invariant-loop-piece
invariant-loop-piece l = record {
  cut : AllByRecursion (Lacks 44) (texts l.pieces.items);
  read : l.text ≡ flat_map behind_commas (texts l.pieces.items) ++ l.left;
}

abbrev pub decreases-loop-piece : goal.decreases-loop-piece
decreases-loop-piece l = length l.left
