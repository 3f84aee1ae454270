-- Spots of a text, and what is left of its tokens.
use Rattle.std.specs.Prelude.{◌≡◌, ℕ, ◌≤◌, List, [], ◌∷◌, length}
use Rattle.lg_lex.specs.declared.location.Location.{Location}
use Rattle.lg_lex.specs.declared.spot.Spot.{Spot}
use Rattle.lg_lex.specs.Locations.{location_of}
use Rattle.lg_lex.specs.Tokens.{Token}

-- it lies in the text, and its line and column are those of its offset
pub record IsSpot (text : List ℕ) (s : Spot) : Type 0 where
  pub within : s.at ≤ length text
  pub placed : s.location ≡ location_of text s.at

-- where the first of the tokens that are left starts, or the end of the text
abbrev pub offset_left : List ℕ → List Token → ℕ
offset_left text [] = length text
offset_left text (t ∷ ts) = t.1

abbrev pub location_left : List ℕ → List Token → Location
location_left text left = location_of text (offset_left text left)
