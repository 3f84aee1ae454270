-- The table of the keys that were asked for.
use Rattle.std.specs.Prelude.{◌≡◌, ◌↔◌, ℕ, zero, suc, ◌+◌, ◌-◌, ◌^◌, ◌<◌, ◌≤◌, max, List, length, Option, None, Some, ◌⊎◌, IfSome, IsTrue}
use Rattle.std.specs.List.{Contains}
use Rattle.std.specs.Map.{keys_of}
use Rattle.lg_gram.specs.declared.disjunct.Disjunct.{Disjunct}
use Rattle.lg_region.specs.Fronts.{Numbering}
use Rattle.lg_region.specs.Keys.{IsValidKey, IsAltOf}
use Rattle.lg_region.specs.declared.key.Key.{Key}
use Rattle.lg_region.specs.declared.key.Key.TheVariants.{Whole, Region as Between}
use Rattle.lg_region.specs.declared.alternative.Alt.{Alt}
use Rattle.lg_forest.specs.Demands.{HasLinkageUnder, left_key, right_key, AsksNext, Reaches}
use Rattle.lg_forest.specs.Forests.{IsLive, AreLive}
use Rattle.lg_forest.specs.declared.search.alternatives.Last.{Last}

-- from end to end; the whole sentence is wider than each region
abbrev pub key_width : List (List Disjunct) → Key → ℕ
key_width positions (Whole nulls) = suc (length positions)
key_width positions (Between left right llist rlist nulls) = right - left

-- the least number that is above the width of the key, if there is one
abbrev pub part_bound : List (List Disjunct) → Option Key → ℕ
part_bound positions None = zero
part_bound positions (Some k) = suc (key_width positions k)

-- the same of both keys of an alternative
abbrev pub alt_bound : List (List Disjunct) → Alt → ℕ
alt_bound positions a = max (part_bound positions (left_key a)) (part_bound positions (right_key a))

-- both keys of an alternative may be asked for
pub record HasValidKeys (n : Numbering) (a : Alt) : Type 0 where
  pub left : IfSome (left_key a) (IsValidKey n.positions n.lists)
  pub right : IfSome (right_key a) (IsValidKey n.positions n.lists)

-- A key has a linkage exactly where one of its alternatives is live, and the keys of its alternatives are narrower and may be
-- asked for.
pub record KeysAreDecided (n : Numbering) : Type 0 where
  pub valid : (k : Key) (a : Alt) → IsValidKey n.positions n.lists k → IsAltOf n.positions n.lists k a → HasValidKeys n a
  pub below : (k : Key) (a : Alt) → IsValidKey n.positions n.lists k → IsAltOf n.positions n.lists k a → alt_bound n.positions a ≤ key_width n.positions k
  pub decides : (k : Key) → IsValidKey n.positions n.lists k → HasLinkageUnder n.positions n.lists k ↔ ((a : Alt) × IsAltOf n.positions n.lists k a × IsLive n.positions n.lists a)

-- what an alternative asks for
pub data AsksOf (n : Numbering) (a : Alt) : Key → Type 0 where
  left : (next : Key) → left_key a ≡ Some next → AsksOf n a next
  right : (next : Key) → right_key a ≡ Some next → IfSome (left_key a) (HasLinkageUnder n.positions n.lists) → AsksOf n a next

-- each key of the table may be asked for, has its live alternatives, and has all in the table that it asks for
pub record IsTable (n : Numbering) (entries : List (Key × List Alt)) : Type 0 where
  pub valid : (k : Key) → Contains (keys_of entries) k → IsValidKey n.positions n.lists k
  pub live : (k : Key) (alts : List Alt) → Contains entries (k, alts) → AreLive n.positions n.lists k alts
  pub closed : (k m : Key) → Contains (keys_of entries) k → AsksNext n.positions n.lists k m → Contains (keys_of entries) m

-- The keys of a kind were asked for: they are in the table with all that was there, and what is new in it is one of them or was
-- asked for, in turn, from one.
pub record Asked (n : Numbering) (Kind : Key → Type 0) (old new : List (Key × List Alt)) : Type 0 where
  pub is_table : IsTable n new
  pub kept : (k : Key) → Contains (keys_of old) k → Contains (keys_of new) k
  pub there : (k : Key) → Kind k → Contains (keys_of new) k
  pub fresh : (k : Key) → Contains (keys_of new) k → Contains (keys_of old) k ⊎ ((m : Key) × Kind m × Reaches n.positions n.lists m k)

-- the last key is in the table, and whether it has a linkage is known
pub record IsLast (n : Numbering) (entries : List (Key × List Alt)) (last : Last) : Type 0 where
  pub live : IsTrue last.live ↔ IfSome last.key (HasLinkageUnder n.positions n.lists)
  pub there : IfSome last.key (Contains (keys_of entries))

-- as many steps were counted as there are new keys, and so many more
abbrev pub IsCounted : ℕ → ℕ → List (Key × List Alt) → ℕ → List (Key × List Alt) → Type 0
IsCounted more before old after new = after + length old ≡ more + before + length new

-- there is room to count the steps of the keys that are narrower than a width
abbrev pub HasRoom : ℕ → ℕ → List (Key × List Alt) → Type 0
HasRoom width steps entries = steps + width ≤ 2 ^ 126 + 2 ^ 10 + length entries

-- the whole sentence, with `from` unlinked words or more, and fewer than `end`
abbrev pub IsWholeFrom : ℕ → ℕ → Key → Type 0
IsWholeFrom from end k = (nulls : ℕ) × (from ≤ nulls) × (nulls < end) × (k ≡ Whole nulls)
