-- The keys without a linkage: those whose right end has a place, and the others.
use Rattle.std.specs.Prelude.{ℕ, ◌+◌, ◌*◌, ◌/◌, ◌%◌, ◌<◌, ◌^◌, List, ◌++◌, length, map, slice_index_or}
use Rattle.std.specs.List.{Contains}
use Rattle.lg_region.specs.declared.key.Key.{Key}
use Rattle.lg_region.specs.declared.key.Key.TheVariants.{Whole, Region as Between}
use Rattle.lg_forest.specs.declared.dead.Near.{Near}
use Rattle.lg_forest.specs.declared.dead.NearKey.{NearKey}
use Rattle.lg_forest.specs.declared.dead.NearRow.{NearRow}
use Rattle.lg_forest.specs.declared.right_ends.RightEnd.{RightEnd}

-- the key of a region whose words and number of unlinked words, and whose right list's number, are small
abbrev pub IsNear : Key → Type 0
IsNear (Whole nulls) = ⊥
IsNear (Between left right llist rlist nulls) = (left < 256) × (right < 256) × (nulls < 256) × (rlist < 2 ^ 14)

abbrev pub key_of : Near → Key
key_of near = Between near.left near.end.word near.llist near.end.list near.nulls

abbrev pub placed : Near → ℕ → NearKey
placed near end = record { left = near.left; nulls = near.nulls; llist = near.llist; end = end }

-- the right end of a place
abbrev pub end_at : List RightEnd → ℕ → RightEnd
end_at ends place = slice_index_or ends place (record { word = 0; list = 0 })

-- the key of a place for its right end
abbrev pub key_in : List RightEnd → NearKey → Key
key_in ends k = Between k.left (end_at ends k.end).word k.llist (end_at ends k.end).list k.nulls

abbrev pub dead_keys : List RightEnd → List NearKey → List Key → List Key
dead_keys ends near others = map (key_in ends) near ++ others

-- the first ones are near keys whose right ends have places, and the others are none
pub record AreDead (ends : List RightEnd) (keys : List NearKey) (others : List Key) : Type 0 where
  pub within : (k : NearKey) → Contains keys k → k.end < length ends
  pub near : (k : NearKey) → Contains keys k → IsNear (key_in ends k)
  pub far : (k : Key) → Contains others k → IsNear k → ⊥

-- the row of a key, its place there, and the key of a row and a place
abbrev pub near_row : NearKey → NearRow
near_row k = record { left = k.left; nulls = k.nulls; llist = k.llist; block = k.end / 64 }

abbrev pub near_place : NearKey → ℕ
near_place k = k.end % 64

abbrev pub near_at : NearRow → ℕ → NearKey
near_at r place = record { left = r.left; nulls = r.nulls; llist = r.llist; end = 64 * r.block + place }
