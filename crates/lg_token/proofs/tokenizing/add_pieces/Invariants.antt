use Rattle.std.proofs.Common.{◌≡◌, ◌+◌, map, take}
use Rattle.lg_dict.specs.Dictionary.{Dictionary}
use Rattle.lg_token.specs.Steps.{total}
use Rattle.lg_token.proofs.Adding.{AddsFirst}
use Rattle.lg_token.proofs.tokenizing.add_pieces.Given as goal

abbrev pub invariant-loop-piece : goal.invariant-loop-piece
invariant-loop-piece l = record {
  place : l.at ≡ l.start + total (take l.piece-index (map (λ piece. piece.now) l.pieces));
  added : (dict : Dictionary) → AddsFirst dict l.start (map (λ piece. piece.now) l.pieces) l.piece-index l.initial.places.items l.places.items;
}
