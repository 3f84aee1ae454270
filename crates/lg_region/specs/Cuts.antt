-- The alternatives of a region: nothing inside it is linked, or it is cut in two at a word.
use Rattle.std.specs.Prelude.{◌≡◌, ◌≢◌, ℕ, suc, ◌+◌, ◌-◌, ◌<◌, ◌≤◌, true, List, [], length, take, Option, None, Some, IsSome, slice_get, slice_index_or, ◌⊎◌}
use Rattle.std.specs.List.{Contains}
use Rattle.lg_gram.specs.Connectors.{Connector, Match}
use Rattle.lg_gram.specs.Linkages.{Linkage}
use Rattle.lg_gram.specs.Rules.{HasLink, IsLinked, chosen_at}
use Rattle.lg_gram.specs.declared.disjunct.Disjunct.{Disjunct}
use Rattle.lg_gram.specs.declared.linkage.Link.{Link}
use Rattle.lg_region.specs.Parts.{Region, IsPart, Under, part_of, IsKnown}
use Rattle.lg_region.specs.declared.key.Joint.{Joint}

-- the link of a joint of L and R
abbrev pub IsJoint : Option Joint → ℕ → ℕ → Link → Type 0
IsJoint None L R l = ⊥
IsJoint (Some j) L R l = l ≡ record { left = L; lplace = j.near; right = R; rplace = j.far }

-- a list that takes part in a joint, by its last place p, goes on without its last connector, or whole where that is multi
abbrev pub GoesOn : List Connector → ℕ → List Connector → Type 0
GoesOn cs p cs' = (suc p ≡ length cs) × ((cs' ≡ take p cs) ⊎ ((cs' ≡ cs) × ((c : Connector) → slice_get cs p ≡ Some c → c.multi ≡ true)))

-- the lists of two ends before and after the joint between them, which joins two connectors that match
abbrev pub IsCutAt : Option Joint → List Connector → List Connector → List Connector → List Connector → Type 0
IsCutAt None near far near' far' = (near' ≡ near) × (far' ≡ far)
IsCutAt (Some j) near far near' far' =
    GoesOn near j.near near' × GoesOn far j.far far'
    × ((a : Connector) × (b : Connector) × (slice_get near j.near ≡ Some a) × (slice_get far j.far ≡ Some b) × Match a b)

-- a word inside a region with its disjunct, its joints with the two ends, and the regions to its left and right
pub record Split : Type 0 where
  pub word : ℕ
  pub disjunct : Disjunct
  pub to_left : Option Joint
  pub to_right : Option Joint
  pub lkey : Region
  pub rkey : Region

-- A region is cut at the word. The last connector of the left end's list has a joint with it; where that list is empty, that of the
-- right end's list has.
pub record IsCut (positions : List (List Disjunct)) (k : Region) (c : Split) : Type 0 where
  pub after : k.left < c.word
  pub before : c.word < k.right
  pub listed : Contains (slice_index_or positions c.word []) c.disjunct
  pub ends_left : (c.lkey.left ≡ k.left) × (c.lkey.right ≡ c.word)
  pub ends_right : (c.rkey.left ≡ c.word) × (c.rkey.right ≡ k.right)
  pub at_left : IsCutAt c.to_left k.llist c.disjunct.left c.lkey.llist c.lkey.rlist
  pub at_right : IsCutAt c.to_right c.disjunct.right k.rlist c.rkey.llist c.rkey.rlist
  pub by_llist : k.llist ≢ [] → IsSome c.to_left
  pub by_rlist : k.llist ≡ [] → IsSome c.to_right
  pub few_left : c.lkey.nulls ≤ c.word - suc k.left
  pub few_right : c.rkey.nulls ≤ k.right - suc c.word
  pub nulls : c.lkey.nulls + c.rkey.nulls ≡ k.nulls

-- an alternative of a region
pub data Alternative : Type 0 where
  all_null : Alternative
  split : Split → Alternative

-- the alternatives of a region
abbrev pub IsAlternative : List (List Disjunct) → Region → Alternative → Type 0
IsAlternative positions k all_null = (k.llist ≡ []) × (k.rlist ≡ []) × (k.nulls ≡ k.right - suc k.left)
IsAlternative positions k (split c) = IsCut positions k c

-- no position is linked, and there is no link
pub record IsEmpty (g : Linkage) : Type 0 where
  pub unlinked : (i : ℕ) → IsLinked g i → ⊥
  pub no_links : (l : Link) → HasLink g l → ⊥

-- A cut spells a linkage: its parts lie under the two keys, and the rest of it is the word with its disjunct and the joints.
pub record Spells (positions : List (List Disjunct)) (k : Region) (c : Split) (g : Linkage) : Type 0 where
  pub part : IsPart positions k.left k.right g
  pub chosen : chosen_at g c.word ≡ Some c.disjunct
  pub left : Under positions c.lkey (part_of k.left c.word g)
  pub right : Under positions c.rkey (part_of c.word k.right g)
  pub joint_left : (l : Link) → IsJoint c.to_left k.left c.word l → HasLink g l
  pub joint_right : (l : Link) → IsJoint c.to_right c.word k.right l → HasLink g l
  pub rest : (l : Link) → HasLink g l → HasLink (part_of k.left c.word g) l ⊎ (HasLink (part_of c.word k.right g) l ⊎ (IsJoint c.to_left k.left c.word l ⊎ IsJoint c.to_right c.word k.right l))

abbrev pub SpelledBy : List (List Disjunct) → Region → Alternative → Linkage → Type 0
SpelledBy positions k all_null g = IsPart positions k.left k.right g × IsEmpty g
SpelledBy positions k (split c) g = Spells positions k c g

-- A region that may be asked for: its ends are positions, or its right end is that of the sentence, with the empty list; its
-- lists are known; and no more positions are unlinked than there are.
pub record IsValid (positions : List (List Disjunct)) (k : Region) : Type 0 where
  pub ends : k.left < k.right
  pub within : k.right ≤ length positions
  pub llist : IsKnown positions k.llist
  pub rlist : IsKnown positions k.rlist
  pub at_end : k.right ≡ length positions → k.rlist ≡ []
  pub few : k.nulls ≤ k.right - suc k.left
