-- Joined parts, and lines.
use Rattle.std.proofs.Common.{◌≡◌, ◌∙◌, ℕ, List, [], ◌∷◌, ◌++◌, sym, ap, append-nil}
use Rattle.std.proofs.lemmas.List.{append_assoc}
use Rattle.std.proofs.lemmas.Grind.{flat_map-append}
use Rattle.std.specs.List.{flat_map, join_with_byte}
use Rattle.lg_text.specs.Texts.{line_of}
use Rattle.lg_text.specs.Pieces.{spaced, line_end}

-- joined parts are the first one, and each other one behind the byte
pub join_with_byte-cons : (c : ℕ) (first : List ℕ) (parts : List (List ℕ)) → join_with_byte c (first ∷ parts) ≡ first ++ flat_map (λ part. c ∷ part) parts
join_with_byte-cons c first [] = sym (append-nil first)
join_with_byte-cons c first (part ∷ parts) = ap (λ rest. first ++ c ∷ rest) (join_with_byte-cons c part parts)

-- a line is its first piece, and the others behind it
pub line_of-cons : (first : List ℕ) (pieces : List (List ℕ)) → line_of (first ∷ pieces) ≡ first ++ line_end pieces
line_of-cons first pieces = ap (λ line. line ++ 10 ∷ []) (join_with_byte-cons 32 first pieces) ∙ append_assoc first (spaced pieces) (10 ∷ [])

-- a line is its first two pieces, and the others behind them
pub line_of_start : (first second : List ℕ) (pieces : List (List ℕ)) → line_of (first ∷ second ∷ pieces) ≡ first ++ ((32 ∷ second) ++ line_end pieces)
line_of_start first second pieces = append_assoc first (32 ∷ join_with_byte 32 (second ∷ pieces)) (10 ∷ []) ∙ ap (λ rest. first ++ 32 ∷ rest) (line_of-cons second pieces)

-- pieces, and the end of the line behind them
pub line_end-append : (front back : List (List ℕ)) → spaced front ++ line_end back ≡ line_end (front ++ back)
line_end-append front back = sym (append_assoc (spaced front) (spaced back) (10 ∷ [])) ∙ ap (λ pieces. pieces ++ 10 ∷ []) (sym (flat_map-append (λ piece. 32 ∷ piece) front back))
