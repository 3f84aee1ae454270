-- Alternatives in few bytes, and what they stand for.
use Rattle.std.specs.Prelude.{◌≡◌, ◌<◌, Option, None, Some}
use Rattle.lg_region.specs.declared.key.Joint.{Joint}
use Rattle.lg_region.specs.declared.key.Key.{Key}
use Rattle.lg_region.specs.declared.key.Key.TheVariants.{Whole, Region as Between}
use Rattle.lg_region.specs.declared.alternative.Alt.{Alt}
use Rattle.lg_region.specs.declared.alternative.Alt.TheVariants.{AllNull, Split as At}
use Rattle.lg_region.specs.declared.small.SmallJoint.{SmallJoint}
use Rattle.lg_region.specs.declared.small.SmallRegion.{SmallRegion}
use Rattle.lg_region.specs.declared.small.Small.{Small}
use Rattle.lg_region.specs.declared.small.Small.TheVariants as small

abbrev pub full_joint : Option SmallJoint → Option Joint
full_joint None = None
full_joint (Some j) = Some (record { near = j.near; far = j.far })

abbrev pub full_region : SmallRegion → Key
full_region r = Between r.left r.right r.llist r.rlist r.nulls

abbrev pub full : Small → Alt
full small.AllNull = AllNull
full (small.First word number rest) = At word number None None None (Some (full_region rest))
full (small.Cut word number to_left to_right before behind) = At word number (full_joint to_left) (full_joint to_right) (Some (full_region before)) (Some (full_region behind))

abbrev pub IsSmallJoint : Option Joint → Type 0
IsSmallJoint None = Unit {0}
IsSmallJoint (Some j) = (j.near < 256) × (j.far < 256)

abbrev pub IsSmallKey : Key → Type 0
IsSmallKey (Whole nulls) = ⊥
IsSmallKey (Between left right llist rlist nulls) = (left < 256) × (right < 256) × (nulls < 256)

-- an alternative that has room in few bytes
abbrev pub IsSmall : Alt → Type 0
IsSmall AllNull = Unit {0}
IsSmall (At word number to_left to_right None (Some rkey)) = (to_left ≡ None) × (to_right ≡ None) × (word < 256) × IsSmallKey rkey
IsSmall (At word number to_left to_right (Some lkey) (Some rkey)) = (word < 256) × IsSmallJoint to_left × IsSmallJoint to_right × IsSmallKey lkey × IsSmallKey rkey
IsSmall _ = ⊥
