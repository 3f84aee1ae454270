-- The pieces of a line.
use Rattle.std.specs.Prelude.{◌≡◌, ℕ, ◌<◌, ◌^◌, eqb, false, List}
use Rattle.std.specs.List.{list_any}

-- no byte is this one
abbrev pub Lacks : ℕ → List ℕ → Type 0
Lacks byte text = list_any (eqb byte) text ≡ false

-- no byte is a blank
abbrev pub HasNoBlank : List ℕ → Type 0
HasNoBlank text = Lacks 32 text

-- a number of 64 bits
abbrev pub IsNumber : ℕ → Type 0
IsNumber n = n < 2 ^ 64

-- a number of 32 bits
abbrev pub IsSmallNumber : ℕ → Type 0
IsSmallNumber n = n < 2 ^ 32
