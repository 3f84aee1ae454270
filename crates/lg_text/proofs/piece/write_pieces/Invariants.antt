use Rattle.std.proofs.Common.{◌≡◌, ◌∷◌, ◌++◌, take}
use Rattle.std.specs.List.{flat_map}
use Rattle.lg_text.specs.Pieces.{piece_text}
use Rattle.lg_text.proofs.piece.write_pieces.Given as goal

-- the pieces so far are written, each behind a space
abbrev pub invariant-loop-piece : goal.invariant-loop-piece
invariant-loop-piece l = l.out.items ≡ l.initial.out.items ++ flat_map (λ piece. 32 ∷ piece_text piece) (take l.piece-index l.pieces)
