-- The numbers by which the search's tables choose where to look for a key.
use Rattle.std.specs.Prelude.{ℕ, ◌+◌, ◌*◌, ◌/◌, ◌%◌, ◌^◌, bit_or}
use Rattle.lg_region.specs.Hashed.{raised}
use Rattle.lg_region.specs.declared.key.Key.{Key}
use Rattle.lg_region.specs.declared.key.Key.TheVariants.{Whole, Region}
use Rattle.lg_region.specs.declared.opening.Origin.{Origin}
use Rattle.lg_forest.specs.declared.halves.Half.{Half}
use Rattle.lg_forest.specs.declared.dead.NearRow.{NearRow}
use Rattle.lg_forest.specs.declared.half_set.HalfRow.{HalfRow}
use Rattle.lg_forest.specs.declared.key_set.Row.{Row}
use Rattle.lg_forest.specs.declared.key_set.Row.TheVariants as row

abbrev pub golden : ℕ
golden = 11400714819323198485

-- the upper half of a product of 64 bits
unfoldable pub mixed_of : ℕ → ℕ → ℕ
mixed_of ends lists = (((ends * golden) % 2 ^ 64 + lists) % 2 ^ 64 * golden) % 2 ^ 64 / 2 ^ 32

-- numbers that go on from that of two others
abbrev pub from_mixed : ℕ → ℕ → ℕ → ℕ
from_mixed ends lists n = (mixed_of ends lists + n) % 2 ^ 64

-- what is looked up one after another has neighbouring numbers: regions with the same ends and right list, by their left list
abbrev pub of_key : Key → ℕ
of_key (Whole nulls) = nulls
of_key (Region left right llist rlist nulls) = from_mixed (bit_or (raised left 16) (bit_or (raised right 8) nulls)) rlist llist

abbrev pub of_row : Row → ℕ
of_row (row.Whole block) = block
of_row (row.Region left right nulls block rlist) = from_mixed (bit_or (raised left 16) (bit_or (raised right 8) nulls)) rlist block

-- the numbers of unlinked words of one origin
abbrev pub of_origin : Origin → ℕ
of_origin o = from_mixed o.left (bit_or (raised o.llist 32) o.last) o.nulls

-- the groups of one word
abbrev pub of_half : Half → ℕ
of_half h = from_mixed (bit_or (raised h.word 16) (bit_or (raised h.right 8) h.nulls)) h.rlist h.from

abbrev pub of_half_row : HalfRow → ℕ
of_half_row r = from_mixed (bit_or (raised r.word 16) (bit_or (raised r.right 8) r.nulls)) r.block r.from

abbrev pub of_near_row : NearRow → ℕ
of_near_row r = from_mixed r.left (bit_or (raised r.nulls 32) r.llist) r.block
