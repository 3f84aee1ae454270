-- How regions begin that begin alike, and what of it the search has found.
use Rattle.std.specs.Prelude.{◌≡◌, ℕ, ◌+◌, ◌<◌, ◌≤◌, List, [], ◌++◌, length, Some, slice_get, IfSome}
use Rattle.std.specs.List.{Contains}
use Rattle.std.specs.Map.{keys_of}
use Rattle.lg_region.specs.Alike.{BeginsWith, IsAltAt, end_of}
use Rattle.lg_region.specs.Fronts.{Numbering}
use Rattle.lg_region.specs.Groups.{IsGroup, StandsBefore}
use Rattle.lg_region.specs.Keys.{IsAltOf}
use Rattle.lg_region.specs.Openings.{BeginsSo, IsIn, LeavesLeft, left_of}
use Rattle.lg_region.specs.Ways.{AddsExactly}
use Rattle.lg_region.specs.declared.key.Key.{Key}
use Rattle.lg_region.specs.declared.alternative.Alt.{Alt}
use Rattle.lg_region.specs.declared.alternative.Alt.TheVariants.{AllNull, Split as At}
use Rattle.lg_region.specs.declared.group.Gap.{Gap}
use Rattle.lg_region.specs.declared.group.Group.{Group}
use Rattle.lg_forest.specs.Demands.{HasLinkageUnder, left_key}
use Rattle.lg_forest.specs.Ends.{AreEnds}
use Rattle.lg_forest.specs.Halves.{IsEnding}
use Rattle.lg_forest.specs.Known.{AreKnown}
use Rattle.lg_forest.specs.declared.halves.Half.{Half}
use Rattle.lg_region.specs.declared.group.Right.{Right}
use Rattle.lg_forest.specs.declared.memory.Memory.{Memory}
use Rattle.lg_forest.specs.declared.openings.Opening.{Opening}
use Rattle.lg_region.specs.declared.opening.Origin.{Origin}
use Rattle.lg_forest.specs.declared.openings.Start.{Start}

-- an alternative starts so: it stands in the group, with this left joint and this left key
abbrev pub StartsSo : Gap → Start → Alt → Type 0
StartsSo gap s a = IsEnding gap s.group s.begin a

-- a group of the region, and a way in which some alternative begins that stands in it
pub record IsStart (n : Numbering) (gap : Gap) (s : Start) : Type 0 where
  pub group : IsGroup n gap s.group
  pub some : (a : Alt) × IsIn n gap s.group a × BeginsSo gap s.group s.begin a

-- the left key of a start has a linkage
abbrev pub IsLiveStart : Numbering → Gap → Start → Type 0
IsLiveStart n gap s = HasLinkageUnder n.positions n.lists (left_of gap s.group s.begin)

-- the left key of an alternative has a linkage
abbrev pub IsLiveLeft : Numbering → Alt → Type 0
IsLiveLeft n a = IfSome (left_key a) (HasLinkageUnder n.positions n.lists)

-- Of each region that begins so, and its alternatives with as many unlinked words on the left as the origin says: the starts are ones of it where
-- it has room behind their words, and their left keys have a linkage; each alternative before `done` whose left key has a linkage starts as exactly
-- one of them; and the left keys of all alternatives before `done` are in the table.
pub record IsOpening (n : Numbering) (entries : List (Key × List Alt)) (origin : Origin) (o : Opening) : Type 0 where
  pub behind : origin.left < o.done
  pub before : (s : Start) → Contains o.starts.items s → s.group.word < o.done
  pub level : (s : Start) → Contains o.starts.items s → s.begin.nulls ≡ origin.nulls
  pub each : (gap : Gap) (s : Start) → BeginsWith n origin gap → Contains o.starts.items s → s.group.word < end_of gap origin.nulls → IsStart n gap s
  pub live : (gap : Gap) (s : Start) → BeginsWith n origin gap → Contains o.starts.items s → IsLiveStart n gap s
  pub some : (gap : Gap) (a : Alt) → BeginsWith n origin gap → IsAltAt n gap origin.nulls a → StandsBefore o.done a → IsLiveLeft n a
      → (s : Start) × Contains o.starts.items s × StartsSo gap s a
  pub apart : (gap : Gap) (i j : ℕ) (s t : Start) (a : Alt) → slice_get o.starts.items i ≡ Some s → slice_get o.starts.items j ≡ Some t → StartsSo gap s a → StartsSo gap t a → i ≡ j
  pub asked : (gap : Gap) (a : Alt) (k : Key) → BeginsWith n origin gap → IsAltAt n gap origin.nulls a → StandsBefore o.done a → left_key a ≡ Some k
      → Contains (keys_of entries) k

-- What is remembered is right: the alternatives that workers found, and each opening and the ends of each half, by the table. Of a half that is shut no
-- disjunct goes on.
pub record IsMemory (n : Numbering) (entries : List (Key × List Alt)) (m : Memory) : Type 0 where
  pub known : AreKnown n m.known
  pub opened : (origin : Origin) (o : Opening) → Contains m.openings (origin, o) → IsOpening n entries origin o
  pub ended : (half : Half) (rights : List Right) → Contains m.halves (half, rights) → AreEnds n entries half rights
  pub shut : (half : Half) → Contains m.shut half → AreEnds n entries half []

-- it is still right, and some of what was known is taken out
pub record IsLeft (n : Numbering) (entries : List (Key × List Alt)) (old new : Memory) : Type 0 where
  pub known : IsMemory n entries new
  pub fewer : length new.known ≤ length old.known

-- an alternative of the key that leaves so many words unlinked on the left
abbrev pub IsAltWith : Numbering → Key → ℕ → Alt → Type 0
IsAltWith n key nulls a = IsAltOf n.positions n.lists key a × LeavesLeft nulls a

-- the left keys of these alternatives that have P are asked for
abbrev pub AsksLeft : Numbering → Key → ℕ → (Alt → Type 0) → Key → Type 0
AsksLeft n key nulls P k = (a : Alt) × IsAltWith n key nulls a × P a × (left_key a ≡ Some k)

-- the live starts of a group of the region that leave so many words unlinked on the left are added, each once
abbrev pub AddsStarts : Numbering → Gap → ℕ → Group → List Start → List Start → Type 0
AddsStarts n gap nulls g old new =
    AddsExactly old new (λ s. (s.group ≡ g) × ((a : Alt) × IsIn n gap g a × BeginsSo gap g s.begin a) × (s.begin.nulls ≡ nulls) × IsLiveStart n gap s)

-- any alternative
abbrev pub IsAny : Alt → Type 0
IsAny a = Unit {0}

-- an alternative stands at a word
abbrev pub StandsAt : ℕ → Alt → Type 0
StandsAt word AllNull = ⊥
StandsAt word (At w number to_left to_right lkey rkey) = w ≡ word

-- A word more was looked at: its live starts came behind those that were there, and each of its alternatives that leaves so many words unlinked on
-- the left and whose left key has a linkage starts as exactly one of them.
pub record OpensWord (n : Numbering) (gap : Gap) (nulls word : ℕ) (old new : Opening) : Type 0 where
  pub done : new.done ≡ word + 1
  pub more : List Start
  pub added : new.starts.items ≡ old.starts.items ++ more
  pub each : (s : Start) → Contains more s → (s.group.word ≡ word) × (s.begin.nulls ≡ nulls) × IsStart n gap s × IsLiveStart n gap s
  pub some : (a : Alt) → IsAltAt n gap nulls a → StandsAt word a → IsLiveLeft n a → (s : Start) × Contains more s × StartsSo gap s a
  pub apart : (other : Gap) (i j : ℕ) (s t : Start) (a : Alt) → slice_get more i ≡ Some s → slice_get more j ≡ Some t → StartsSo other s a → StartsSo other t a → i ≡ j
