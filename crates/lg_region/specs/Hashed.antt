-- What a key gives a hasher: numbers in one, which tells apart what a search asks for.
use Rattle.std.specs.Prelude.{ℕ, List, ◌*◌, ◌^◌, ◌%◌, bit_or}
use Rattle.std.specs.Hash as fed
use Rattle.lg_region.specs.declared.key.Key.{Key}
use Rattle.lg_region.specs.declared.key.Key.TheVariants.{Whole, Region}

-- a number with so many zero bits behind it, in 64 bits
abbrev pub raised : ℕ → ℕ → ℕ
raised n bits = (n * 2 ^ bits) % 2 ^ 64

abbrev pub input_of : Key → List (List ℕ)
input_of (Whole nulls) = fed.u32 nulls
input_of (Region left right llist rlist nulls) =
    fed.u64 (bit_or (bit_or (raised left 56) (bit_or (raised right 48) (raised nulls 40))) (bit_or (raised llist 20) rlist))
