-- Members: disjuncts at positions, with the numbers of their two sides.
use Rattle.std.specs.Prelude.{◌≡◌, ◌↔◌, ℕ, ◌+◌, suc, Bool, true, false, cond, ◌&&◌, List, [], ◌∷◌, ◌++◌, ◌==◌, length, map, Some, slice_get, slice_index_or}
use Rattle.std.specs.List.{Contains, All, filter}
use Rattle.lg_gram.specs.Connectors.{Connector}
use Rattle.lg_gram.specs.declared.disjunct.Disjunct.{Disjunct}
use Rattle.lg_member.specs.declared.form.Form.{Form}
use Rattle.lg_member.specs.declared.side.Side.{Side}
use Rattle.lg_member.specs.declared.member.Member.{Member}

-- the disjunct that a form is of
abbrev pub formed : Form → Disjunct
formed f = record { word = f.word.now; left = f.left.now; right = f.right.now; cost = f.cost.now }

-- the list of a disjunct to the right, or to the left
abbrev pub list_on : Bool → Disjunct → List Connector
list_on right d = cond right d.right d.left

-- the number of a member's side
abbrev pub side_on : Bool → Member → ℕ
side_on right m = cond right m.right m.left

-- a member as a disjunct at a position
abbrev pub seen_of : Member → ℕ × Disjunct
seen_of m = (m.position, formed m.form)

-- the side of a number is this list of this position
pub record IsSideAt (sides : List Side) (k i : ℕ) (cs : List Connector) : Type 0 where
  pub side : Side
  pub at : slice_get sides k ≡ Some side
  pub position : side.position ≡ i
  pub list : side.list.now ≡ cs

pub record IsKnown (lefts rights : List Side) (m : Member) : Type 0 where
  pub left : IsSideAt lefts m.left m.position (formed m.form).left
  pub right : IsSideAt rights m.right m.position (formed m.form).right

pub record Grows (old new : List Side) : Type 0 where
  pub more : List Side
  pub added : new ≡ old ++ more

-- the sides from this number on are those of lists of position i
pub record HasSides (i : ℕ) (lists : List (List Connector)) (first : ℕ) (sides : List Side) : Type 0 where
  pub each : (k : ℕ) (cs : List Connector) → slice_get lists k ≡ Some cs → IsSideAt sides (first + k) i cs

-- the disjuncts of position i are added as members, whose sides are there
pub record AddsLines (i : ℕ) (ds : List Disjunct) (lefts rights : List Side) (old new : List Member) : Type 0 where
  pub more : List Member
  pub added : new ≡ old ++ more
  pub seen : map seen_of more ≡ map (λ d. (i, d)) ds
  pub known : All (IsKnown lefts rights) more

-- the same where the sides may grow
pub record AddsMembers (i : ℕ) (ds : List Disjunct) (old_lefts old_rights lefts rights : List Side) (old new : List Member) : Type 0 where
  pub left : Grows old_lefts lefts
  pub right : Grows old_rights rights
  pub lines : AddsLines i ds lefts rights old new

-- all disjuncts of the positions from i on
abbrev pub all_from : ℕ → List (List Disjunct) → List (ℕ × Disjunct)
all_from i [] = []
all_from i (ds ∷ dss) = map (λ d. (i, d)) ds ++ all_from (suc i) dss

pub record AreMembers (positions : List (List Disjunct)) (lefts rights : List Side) (members : List Member) : Type 0 where
  pub seen : map seen_of members ≡ all_from 0 positions
  pub known : All (IsKnown lefts rights) members

-- which sides members have, on the right, or on the left
pub record AreUsed (right : Bool) (count : ℕ) (members : List Member) (used : List Bool) : Type 0 where
  pub length_is : length used ≡ count
  pub each : (k : ℕ) → (slice_get used k ≡ Some true) ↔ ((m : Member) × Contains members m × (side_on right m ≡ k))

-- a member has this disjunct at this position
abbrev pub Have : List Member → ℕ → Disjunct → Type 0
Have members i d = (m : Member) × Contains members m × (m.position ≡ i) × (formed m.form ≡ d)

-- both lists of a member are on, by their numbers
abbrev pub are_on : List Bool → List Bool → Member → Bool
are_on lefts rights m = slice_index_or lefts m.left false && slice_index_or rights m.right false

-- the members that pass a test are left, in order, and no others
pub record Keeps (test : Member → Bool) (old new : List Member) : Type 0 where
  pub filtered : new ≡ filter test old
  pub exactly : (m : Member) → Contains new m ↔ (Contains old m × (test m ≡ true))

-- some of the members are left, in order
abbrev pub AreLeft : List Member → List Member → Type 0
AreLeft old new = (test : Member → Bool) × Keeps test old new

-- the disjuncts of members at a position
abbrev pub row_at : List Member → ℕ → List Disjunct
row_at members i = map (λ m. formed m.form) (filter (λ m. m.position == i) members)
