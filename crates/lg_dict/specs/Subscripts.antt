-- Subscripts of words, as in `run.v`, after link-parser.
use Rattle.std.specs.Prelude.{◌≡◌, ◌≢◌, ℕ, List, [], ◌∷◌, ◌++◌, Bool, true, false, ◌&&◌, ◌||◌, ◌==◌, not, if◌then◌else◌}
use Rattle.std.specs.Char.{is_ascii_lowercase, is_ascii_digit}
use Rattle.std.specs.List.{list_all, before_last, after_last}

-- the point before a subscript
abbrev pub is_point : ℕ → Bool
is_point byte = byte == 46

-- a to z, 0 to 9, `-` (45) or `_` (95)
abbrev pub is_in_subscript : ℕ → Bool
is_in_subscript byte = is_ascii_lowercase byte || is_ascii_digit byte || byte == 45 || byte == 95

-- what may follow the point: a letter a to z, and then such bytes
abbrev pub is_subscript : List ℕ → Bool
is_subscript [] = false
is_subscript (first ∷ rest) = is_ascii_lowercase first && list_all is_in_subscript rest

abbrev pub is_empty : List ℕ → Bool
is_empty [] = true
is_empty (_ ∷ _) = false

-- the last point of a word begins its subscript where it is not the first byte, and a subscript follows it
abbrev pub has_subscript : List ℕ → Bool
has_subscript word = not (is_empty (before_last is_point word)) && is_subscript (after_last is_point word)

-- what stands before the subscript; the whole word where it has none
abbrev pub stem_of : List ℕ → List ℕ
stem_of word = if has_subscript word then before_last is_point word else word

-- a word is cut into a stem, a point and a subscript
pub record IsCut (word stem after : List ℕ) : Type 0 where
  pub parts : word ≡ stem ++ 46 ∷ after
  pub some : stem ≢ []
  pub subscript : is_subscript after ≡ true

-- a cut gives the stem; a word that cannot be cut is its own stem
pub data IsStem (word stem : List ℕ) : Type 0 where
  Cut : (after : List ℕ) → IsCut word stem after → IsStem word stem
  Whole : ((front after : List ℕ) → ¬ IsCut word front after) → stem ≡ word → IsStem word stem
