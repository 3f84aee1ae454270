-- Where the links of a linkage may stand.
use Rattle.std.specs.Prelude.{◌≡◌, ℕ, ◌<◌, ◌≤◌, Bool, List, [], length, Option, Some, slice_index_or, if◌then◌else◌}
use Rattle.std.specs.List.{Contains}
use Rattle.lg_gram.specs.Connectors.{Connector}
use Rattle.lg_gram.specs.Limits.{SIDE}
use Rattle.lg_gram.specs.Linkages.{Linkage}
use Rattle.lg_gram.specs.Rules.{chosen_at, rights_of, lefts_of, HasLink}
use Rattle.lg_gram.specs.declared.disjunct.Disjunct.{Disjunct}
use Rattle.lg_gram.specs.declared.linkage.Link.{Link}

-- choices and links, as a linkage
abbrev pub linkage_of : List (Option Disjunct) → List Link → Linkage
linkage_of chosen links = record { chosen = chosen; links = links }

-- the connectors of a side (true: the right) of a position
abbrev pub side_of : Linkage → Bool → ℕ → List Connector
side_of g right i = if right then rights_of g i else lefts_of g i

-- no side of a position has more than 255 connectors
abbrev pub HasShortSides : Linkage → Type 0
HasShortSides g = (right : Bool) (i : ℕ) → length (side_of g right i) ≤ SIDE

-- the link joins a place of the right list at one position to a place of the left list at a later one
pub record IsPlaced (g : Linkage) (l : Link) : Type 0 where
  pub forward : l.left < l.right
  pub within : l.right < length g.chosen
  pub lplace : l.lplace < length (rights_of g l.left)
  pub rplace : l.rplace < length (lefts_of g l.right)

-- each link is placed so
abbrev pub ArePlaced : Linkage → Type 0
ArePlaced g = (l : Link) → HasLink g l → IsPlaced g l

-- The linkage is one of the problem: it has as many positions, each chosen disjunct stands in its position's list, and each link stands at places of two chosen disjuncts.
pub record IsOf (positions : List (List Disjunct)) (g : Linkage) : Type 0 where
  pub same_length : length g.chosen ≡ length positions
  pub listed : (i : ℕ) (d : Disjunct) → chosen_at g i ≡ Some d → Contains (slice_index_or positions i []) d
  pub placed : ArePlaced g
