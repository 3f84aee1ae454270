-- The pieces of a printed line.
use Rattle.std.specs.Prelude.{ℕ, List, [], ◌∷◌, ◌++◌, codes, decimal}
use Rattle.std.specs.List.{flat_map}
use Rattle.lg_base.specs.Costs.{cost_text}
use Rattle.lg_text.specs.Texts.{side_text}
use Rattle.lg_text.specs.Replies.{place_text}
use Rattle.lg_text.specs.declared.piece.Piece.{Piece}
use Rattle.lg_text.specs.declared.piece.Piece.TheVariants as pieces

-- what is printed of a piece
abbrev pub piece_text : Piece → List ℕ
piece_text (pieces.Word bytes) = bytes.now
piece_text (pieces.Number number) = decimal number
piece_text (pieces.NumberColon number) = decimal number ++ codes ":"
piece_text (pieces.Cost cost) = cost_text cost
piece_text (pieces.Side connectors) = side_text connectors.now
piece_text (pieces.Place place) = place_text place

-- pieces behind others, each behind a space
abbrev pub spaced : List (List ℕ) → List ℕ
spaced pieces = flat_map (λ piece. 32 ∷ piece) pieces

-- the end of a line that has begun
abbrev pub line_end : List (List ℕ) → List ℕ
line_end pieces = spaced pieces ++ 10 ∷ []
