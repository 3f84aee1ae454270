use Rattle.std.proofs.Common.{◌≡◌, ◌++◌, take}
use Rattle.std.specs.List.{flat_map}
use Rattle.lg_run.specs.Pieces.{piece_text}
use Rattle.lg_run.proofs.line.write_pieces.Given as goal

-- the pieces so far are written
abbrev pub invariant-loop-piece : goal.invariant-loop-piece
invariant-loop-piece l = l.out.items ≡ l.initial.out.items ++ flat_map piece_text (take l.piece-index l.pieces)
