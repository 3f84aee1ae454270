-- The limits of dictionary texts.
use Rattle.std.specs.Prelude.{ℕ}

-- the most bytes of a dictionary and of a word file
abbrev pub FILE : ℕ
FILE = 67108864
