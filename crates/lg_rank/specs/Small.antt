-- What has room in few bytes.
use Rattle.std.specs.Prelude.{◌<◌, Option, None, Some}
use Rattle.lg_gram.specs.declared.linkage.Link.{Link}
use Rattle.lg_region.specs.declared.key.Key.{Key}
use Rattle.lg_region.specs.declared.key.Key.TheVariants.{Whole, Region as Between}

-- a link whose words and places have room in a byte each
abbrev pub IsShort : Option Link → Type 0
IsShort None = Unit {0}
IsShort (Some l) = (l.left < 256) × (l.lplace < 256) × (l.right < 256) × (l.rplace < 256)

-- the ends of what a key asks about
abbrev pub HasShortEnds : Key → Type 0
HasShortEnds (Whole nulls) = Unit {0}
HasShortEnds (Between left right llist rlist nulls) = (left < 256) × (right < 256)
