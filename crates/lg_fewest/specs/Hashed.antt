-- What a span gives a hasher: one number.
use Rattle.std.specs.Prelude.{ℕ, List, bit_or}
use Rattle.std.specs.Hash as fed
use Rattle.lg_region.specs.Hashed.{raised}
use Rattle.lg_fewest.specs.declared.span.Span.{Span}

abbrev pub input_of : Span → List (List ℕ)
input_of s = fed.u64 (bit_or (bit_or (raised s.left 56) (raised s.right 48)) (bit_or (raised s.llist 24) s.rlist))
