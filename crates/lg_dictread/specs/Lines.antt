-- The lines of items, and what the tokens that are left begin with.
use Rattle.std.specs.Prelude.{ℕ, List, [], ◌∷◌, map, slice_index}
use Rattle.lg_gram.specs.declared.entry.Item.{Item}
use Rattle.lg_lex.specs.Locations.{location_of}
use Rattle.lg_lex.specs.Tokens.{Token}
use Rattle.lg_expr.specs.Parts.{Part, wrong}
use Rattle.lg_dictread.specs.Entries.{part}

-- what the first of the tokens that are left is in an expression
abbrev pub part_left : List Token → Part
part_left [] = wrong
part_left (t ∷ ts) = part t

-- the line of an item
abbrev pub line_of : List ℕ → Item × ℕ → ℕ
line_of text i = (location_of text i.1).line

-- the line of an entry is that of its first item
abbrev pub entry_line : List ℕ → List (Item × ℕ) → ℕ
entry_line text is = slice_index (map (line_of text) is) 0
