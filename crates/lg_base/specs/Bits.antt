-- Bits of a word.
use Rattle.std.specs.Prelude.{ℕ, ◌/◌, ◌%◌, ◌^◌}

-- the bit of a place, which is 0 or 1; the lowest has place 0
abbrev pub bit_at : ℕ → ℕ → ℕ
bit_at bits place = bits / 2 ^ place % 2
