-- Lines and columns.
use Rattle.std.specs.Prelude.{ℕ, ◌+◌, ◌-◌, ◌^◌, Bool, if◌then◌else◌, ◌==◌, List, take, length, count_by, min}
use Rattle.std.specs.List.{list_any, after_last}
use Rattle.lg_lex.specs.declared.location.Location.{Location}
use Rattle.lg_lex.specs.Classes.{line_feed}

-- lines and columns stop at the greatest u32
abbrev pub capped : ℕ → ℕ
capped n = min n (2 ^ 32 - 1)

abbrev pub is_line_feed : ℕ → Bool
is_line_feed b = b == line_feed

-- how many bytes stand after the last line feed, or how many there are where there is none
abbrev pub column_offset : List ℕ → ℕ
column_offset bytes = length (after_last is_line_feed bytes)

-- one more than the line feeds before it, and one more than the bytes before it on its line
abbrev pub location_of : List ℕ → ℕ → Location
location_of text i = record {
  line = capped (1 + count_by is_line_feed (take i text));
  column = capped (1 + column_offset (take i text));
}

-- the location of a text's first byte
abbrev pub first_location : Location
first_location = record { line = 1; column = 1 }

-- the location after these bytes, where they begin at p
abbrev pub location_after : Location → List ℕ → Location
location_after p bytes = record {
  line = capped (p.line + count_by is_line_feed bytes);
  column =
      if list_any is_line_feed bytes then capped (1 + column_offset bytes)
      else capped (p.column + length bytes);
}
