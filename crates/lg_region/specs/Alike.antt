-- Regions that begin alike: at one position, with one list or, where that is empty, with right lists that end with one connector.
use Rattle.std.specs.Prelude.{◌≡◌, ◌≢◌, ℕ, ◌-◌, ◌<◌, ◌≤◌, List, length, Option, Some, slice_get}
use Rattle.lg_gram.specs.Connectors.{Connector}
use Rattle.lg_region.specs.Fronts.{AreListsOf, Numbering, list_of}
use Rattle.lg_region.specs.Groups.{region_of_gap, IsKnownGap, StandsBefore, left_lead, right_lead}
use Rattle.lg_region.specs.Keys.{IsAltOfRegion}
use Rattle.lg_region.specs.Openings.{LeavesLeft}
use Rattle.lg_region.specs.declared.alternative.Alt.{Alt}
use Rattle.lg_region.specs.declared.alternative.Alt.TheVariants.{Split as At}
use Rattle.lg_region.specs.declared.group.Gap.{Gap}
use Rattle.lg_region.specs.declared.key.Key.TheVariants.{Region as Between}
use Rattle.lg_region.specs.declared.opening.Origin.{Origin}

abbrev pub last_of : List Connector → Option Connector
last_of cs = slice_get cs (length cs - 1)

-- The region has a list, begins as the origin says, and may leave so many words unlinked to the left of its cut. Its disjuncts are found by its
-- left list, or, where that is empty, by its right one.
pub record BeginsWith (n : Numbering) (origin : Origin) (gap : Gap) : Type 0 where
  pub left_is : gap.left ≡ origin.left
  pub llist_is : gap.llist ≡ origin.llist
  pub last_is : gap.llist ≡ 0 → last_of (list_of n.lists gap.rlist) ≡ last_of (list_of n.lists origin.last)
  pub some : (gap.llist ≡ 0) × (gap.rlist ≡ 0) → ⊥
  pub few : origin.nulls ≤ gap.nulls
  pub lead : gap.llist ≢ 0 → gap.lead ≡ left_lead n gap.llist
  pub rlead : gap.llist ≡ 0 → gap.lead ≡ right_lead n gap.rlist
  pub known : IsKnownGap n gap

-- before this word the region can be cut with so many unlinked words on the left: the others have room on the right
abbrev pub end_of : Gap → ℕ → ℕ
end_of gap nulls = gap.right - (gap.nulls - nulls)

-- an alternative of the region that leaves so many words unlinked on the left
abbrev pub IsAltAt : Numbering → Gap → ℕ → Alt → Type 0
IsAltAt n gap nulls a = IsAltOfRegion n.positions n.lists (region_of_gap n.lists gap) a × LeavesLeft nulls a

-- it cuts the region inside, where there is room for the unlinked words
abbrev pub CutsInside : Gap → Alt → Type 0
CutsInside gap (At w i to_left to_right (Some (Between l r ll rl nulls)) rkey) = (gap.left < w) × (nulls ≤ gap.nulls) × (w < end_of gap nulls)
CutsInside gap _ = ⊥

-- two alternatives cut at the same word with the same disjunct, and have the same left joint and the same left key
abbrev pub HaveSameLeft : Alt → Alt → Type 0
HaveSameLeft (At w i to_left to_right lkey rkey) (At w' i' to_left' to_right' lkey' rkey') = (w ≡ w') × (i ≡ i') × (to_left ≡ to_left') × (lkey ≡ lkey')
HaveSameLeft _ _ = ⊥

-- a region with a list is cut inside; and for each alternative of a region that leaves as many words unlinked on the left as the origin says, each
-- other region that begins so has one with the same left, if there is room
pub record RegionsBeginAlike : Type 0 where
  pub inside : (n : Numbering) (origin : Origin) (gap : Gap) (a : Alt) → AreListsOf n.positions n.lists → BeginsWith n origin gap
      → IsAltOfRegion n.positions n.lists (region_of_gap n.lists gap) a → CutsInside gap a
  pub alike : (n : Numbering) (origin : Origin) (gap other : Gap) (a : Alt) → AreListsOf n.positions n.lists → BeginsWith n origin gap → BeginsWith n origin other
      → IsAltAt n other origin.nulls a → StandsBefore (end_of gap origin.nulls) a
      → (b : Alt) × IsAltAt n gap origin.nulls b × HaveSameLeft a b
