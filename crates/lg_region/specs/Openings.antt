-- How the alternatives of a region begin: by groups of disjuncts, and in a group by the left joint and the left key.
use Rattle.std.specs.Prelude.{◌≡◌, ◌≢◌, ℕ, suc, ◌-◌, ◌<◌, ◌≤◌, List, ◌++◌, length, Some, slice_get}
use Rattle.std.specs.List.{Contains}
use Rattle.lg_region.specs.Fronts.{AreListsOf, Numbering, AreOnce}
use Rattle.lg_region.specs.Keys.{IsAltOfRegion}
use Rattle.lg_region.specs.Groups.{region_of_gap, split_of, IsGroup, IsKnownGap, IsRightOf, StandsIn, left_lead, right_lead}
use Rattle.lg_region.specs.declared.key.Key.{Key}
use Rattle.lg_region.specs.declared.key.Key.TheVariants.{Region as Between}
use Rattle.lg_region.specs.declared.alternative.Alt.{Alt}
use Rattle.lg_region.specs.declared.alternative.Alt.TheVariants.{AllNull, Split as At}
use Rattle.lg_region.specs.declared.ways.Way.{Way}
use Rattle.lg_region.specs.declared.group.Gap.{Gap}
use Rattle.lg_region.specs.declared.group.Group.{Group}
use Rattle.lg_region.specs.declared.group.Right.{Right}
use Rattle.lg_region.specs.declared.opening.Beginning.{Beginning}

-- the key of a region
abbrev pub IsKeyOfGap : Key → Gap → Type 0
IsKeyOfGap key gap = key ≡ Between gap.left gap.right gap.llist gap.rlist gap.nulls

-- the region of a valid key that has a list; its disjuncts are found by its left list, or, where that is empty, by its right one
pub record IsGapOf (n : Numbering) (key : Key) (gap : Gap) : Type 0 where
  pub key_is : IsKeyOfGap key gap
  pub known : IsKnownGap n gap
  pub ends : gap.left < gap.right
  pub within : gap.right ≤ length n.positions
  pub some : (gap.llist ≡ 0) × (gap.rlist ≡ 0) → ⊥
  pub few : gap.nulls ≤ gap.right - suc gap.left
  pub lead : gap.llist ≢ 0 → gap.lead ≡ left_lead n gap.llist
  pub rlead : gap.llist ≡ 0 → gap.lead ≡ right_lead n gap.rlist

-- an alternative of the region of a gap that stands in a group
abbrev pub IsIn : Numbering → Gap → Group → Alt → Type 0
IsIn n gap g a = IsAltOfRegion n.positions n.lists (region_of_gap n.lists gap) a × StandsIn g.word g.from g.to a

-- no alternative stands in two groups
abbrev pub AreApart : List Group → Type 0
AreApart gs = (i j : ℕ) (g h : Group) (a : Alt) → slice_get gs i ≡ Some g → slice_get gs j ≡ Some h → StandsIn g.word g.from g.to a → StandsIn h.word h.from h.to a → i ≡ j

-- the groups of a word's disjuncts up to a number are added
pub record GroupsOfWord (n : Numbering) (gap : Gap) (word to : ℕ) (old new : List Group) : Type 0 where
  pub more : List Group
  pub added : new ≡ old ++ more
  pub each : (g : Group) → Contains more g → IsGroup n gap g × (g.word ≡ word) × (g.to ≤ to)
  pub some : (a : Alt) → IsAltOfRegion n.positions n.lists (region_of_gap n.lists gap) a → StandsIn word 0 to a → (g : Group) × Contains more g × StandsIn g.word g.from g.to a
  pub apart : AreApart more

-- the left key of a beginning
abbrev pub left_of : Gap → Group → Beginning → Key
left_of gap g b = Between gap.left g.word b.way.near b.way.far b.nulls

-- an alternative has this left joint and this left key
abbrev pub BeginsSo : Gap → Group → Beginning → Alt → Type 0
BeginsSo gap g b AllNull = ⊥
BeginsSo gap g b (At word number to_left to_right lkey rkey) = (to_left ≡ b.way.joint) × (lkey ≡ Some (left_of gap g b))

abbrev pub begins_at : ℕ → Way → Beginning
begins_at nulls way = record { nulls = nulls; way = way }

-- some disjunct of the group can cut the region
abbrev pub HasRight : Numbering → Gap → Group → Type 0
HasRight n gap g = (r : Right) × IsRightOf n gap g r

-- so many words can be unlinked to the left of a word, and the others of the region to its right
abbrev pub HasRoomFor : Gap → ℕ → ℕ → Type 0
HasRoomFor gap word nulls = (nulls ≤ gap.nulls) × (nulls < word - gap.left) × (gap.nulls - nulls < gap.right - word)

-- an alternative that leaves so many words unlinked to the left of its word
abbrev pub LeavesLeft : ℕ → Alt → Type 0
LeavesLeft nulls (At word number to_left to_right (Some (Between l r ll rl left)) rkey) = left ≡ nulls
LeavesLeft nulls _ = ⊥

-- exactly the beginnings, each once, of the alternatives that stand in a group and leave so many words unlinked on the left
pub record AreBeginnings (n : Numbering) (gap : Gap) (g : Group) (nulls : ℕ) (bs : List Beginning) : Type 0 where
  pub some : (a : Alt) → IsIn n gap g a → LeavesLeft nulls a → (b : Beginning) × Contains bs b × BeginsSo gap g b a
  pub each : (b : Beginning) → Contains bs b → (a : Alt) × IsIn n gap g a × BeginsSo gap g b a
  pub level : (b : Beginning) → Contains bs b → b.nulls ≡ nulls
  pub once : AreOnce bs

-- the alternative of a group that begins so and goes on with a disjunct
abbrev pub ended : Gap → Group → Beginning → Right → Alt
ended gap g b = split_of gap g.word b.nulls b.way

-- The alternatives that stand in a group and begin so are those with a disjunct of the group, each of which makes another.
pub record HasEnds (n : Numbering) (gap : Gap) (g : Group) (b : Beginning) : Type 0 where
  pub few : b.nulls ≤ gap.nulls
  pub made : (r : Right) → IsRightOf n gap g r → IsIn n gap g (ended gap g b r)
  pub some : (a : Alt) → IsIn n gap g a → BeginsSo gap g b a → (r : Right) × IsRightOf n gap g r × (ended gap g b r ≡ a)
  pub apart : (r s : Right) → ended gap g b r ≡ ended gap g b s → r ≡ s

-- it is so wherever some alternative of the group begins so
abbrev pub AlternativesEnd : Type 0
AlternativesEnd = (n : Numbering) (gap : Gap) (g : Group) (b : Beginning) → AreListsOf n.positions n.lists → IsKnownGap n gap → IsGroup n gap g
    → (a : Alt) × IsIn n gap g a × BeginsSo gap g b a → HasEnds n gap g b
