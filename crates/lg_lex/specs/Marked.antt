-- The byte order mark.
use Rattle.std.specs.Prelude.{ℕ, List, [], ◌∷◌, length, drop, nat_eq, if◌then◌else◌}
use Rattle.std.specs.List.{starts_with}

-- U+FEFF in UTF-8
abbrev pub byte_order_mark : List ℕ
byte_order_mark = 0xEF ∷ 0xBB ∷ 0xBF ∷ []

-- the text after a byte order mark at its start
abbrev pub without_mark : List ℕ → List ℕ
without_mark text =
    if starts_with nat_eq text byte_order_mark then drop (length byte_order_mark) text else text
