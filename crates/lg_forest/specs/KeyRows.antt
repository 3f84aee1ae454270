-- The rows of keys: those of regions share one by sixteen left lists, and by four numbers of unlinked words each.
use Rattle.std.specs.Prelude.{ℕ, ◌+◌, ◌*◌, ◌/◌, ◌%◌, ◌<◌}
use Rattle.lg_region.specs.declared.key.Key.{Key}
use Rattle.lg_region.specs.declared.key.Key.TheVariants.{Whole, Region as Between}
use Rattle.lg_forest.specs.declared.key_set.Row.{Row}
use Rattle.lg_forest.specs.declared.key_set.Row.TheVariants as row

-- the row of a key, and its place there
abbrev pub row_of : Key → Row
row_of (Whole nulls) = row.Whole (nulls / 64)
row_of (Between left right llist rlist nulls) = row.Region left right (nulls / 4) (llist / 16) rlist

abbrev pub place_of : Key → ℕ
place_of (Whole nulls) = nulls % 64
place_of (Between left right llist rlist nulls) = llist % 16 * 4 + nulls % 4

-- the key of a row and a place
abbrev pub key_at : Row → ℕ → Key
key_at (row.Whole block) place = Whole (64 * block + place)
key_at (row.Region left right nulls block rlist) place = Between left right (16 * block + place / 4) rlist (4 * nulls + place % 4)

-- a key whose words and number of unlinked words are below 256
abbrev pub IsSmall : Key → Type 0
IsSmall (Whole nulls) = nulls < 256
IsSmall (Between left right llist rlist nulls) = (left < 256) × (right < 256) × (nulls < 256)
