-- How regions end that end alike, and what of it the search has found.
use Rattle.std.specs.Prelude.{◌≡◌, ◌≢◌, ◌==◌, ℕ, List}
use Rattle.std.specs.List.{Contains}
use Rattle.std.specs.Map.{keys_of}
use Rattle.lg_region.specs.Fronts.{Numbering}
use Rattle.lg_region.specs.Groups.{IsRightOf, key_behind, left_lead, right_lead}
use Rattle.lg_region.specs.Ways.{AreExactly}
use Rattle.lg_region.specs.declared.key.Key.{Key}
use Rattle.lg_region.specs.declared.alternative.Alt.{Alt}
use Rattle.lg_region.specs.declared.group.Gap.{Gap}
use Rattle.lg_region.specs.declared.group.Group.{Group}
use Rattle.lg_region.specs.declared.group.Right.{Right}
use Rattle.lg_forest.specs.Demands.{HasLinkageUnder}
use Rattle.lg_forest.specs.declared.halves.Half.{Half}

-- a region that a group cuts with so many unlinked words behind its word, as far as its end goes
abbrev pub half_from : Gap → Group → ℕ → Half
half_from gap g nulls = record {
  word = g.word;
  from = g.from;
  to = g.to;
  class = gap.lead.class;
  is_alone = gap.llist == 0;
  right = gap.right;
  rlist = gap.rlist;
  nulls = nulls;
}

-- the region is cut by a group so, and its disjuncts are found by its left list, or, where that is empty, by its right one
pub record EndsWith (n : Numbering) (half : Half) (gap : Gap) (g : Group) : Type 0 where
  pub is : half ≡ half_from gap g half.nulls
  pub lead : gap.llist ≢ 0 → gap.lead ≡ left_lead n gap.llist
  pub rlead : gap.llist ≡ 0 → gap.lead ≡ right_lead n gap.rlist

-- a disjunct of the group that can cut the region, and whose right key has a linkage
abbrev pub IsLiveRight : Numbering → Gap → Group → ℕ → Right → Type 0
IsLiveRight n gap g nulls r = IsRightOf n gap g r × HasLinkageUnder n.positions n.lists (key_behind gap g nulls r)

-- Of each region that ends so: exactly these disjuncts of the group have a right key with a linkage, and the right keys of all are in the table.
pub record AreEnds (n : Numbering) (entries : List (Key × List Alt)) (half : Half) (rights : List Right) : Type 0 where
  pub live : (gap : Gap) (g : Group) → EndsWith n half gap g → AreExactly rights (IsLiveRight n gap g half.nulls)
  pub asked : (gap : Gap) (g : Group) (r : Right) → EndsWith n half gap g → IsRightOf n gap g r → Contains (keys_of entries) (key_behind gap g half.nulls r)

-- the right keys of the disjuncts of a group
abbrev pub AsksRight : Numbering → Gap → Group → ℕ → Key → Type 0
AsksRight n gap g nulls k = (r : Right) × IsRightOf n gap g r × (k ≡ key_behind gap g nulls r)
