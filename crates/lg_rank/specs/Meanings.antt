-- What a table of nodes stands for: the linkages under the regions of its nodes.
use Rattle.std.specs.Prelude.{◌≡◌, ◌↔◌, ℕ, suc, ◌+◌, ◌-◌, ◌<◌, List, [], length, replicate, Option, None, Some, slice_get, slice_index_or}
use Rattle.lg_gram.specs.Linkages.{Linkage, link_length, total_cost, total_length}
use Rattle.lg_gram.specs.Problems.{IsProblem}
use Rattle.lg_gram.specs.Rules.{chosen_at}
use Rattle.lg_gram.specs.declared.disjunct.Disjunct.{Disjunct}
use Rattle.lg_gram.specs.declared.linkage.Link.{Link}
use Rattle.lg_region.specs.declared.key.Joint.{Joint}
use Rattle.lg_region.specs.Cuts.{Split, IsCut, IsValid}
use Rattle.lg_region.specs.Laws.{HasLinkage}
use Rattle.lg_region.specs.Parts.{Region, Under, UnderWhole}
use Rattle.lg_region.specs.Whole.{First, IsFirst}
use Rattle.lg_rank.specs.Nodes.{Has, ways_of, way_at, IsForest}
use Rattle.lg_rank.specs.Values.{Value}
use Rattle.lg_rank.specs.declared.part.Way.{Way}

-- 0 for no disjunct, and one more than the place of a disjunct in its list
abbrev pub IsCodeOf : List Disjunct → Option Disjunct → ℕ → Type 0
IsCodeOf ds None n = n ≡ 0
IsCodeOf ds (Some d) n = (m : ℕ) × (n ≡ suc m) × (slice_get ds m ≡ Some d)

-- the choices of the numbers, one for each
pub record AreCodesOf (positions : List (List Disjunct)) (choices : List (Option Disjunct)) (codes : List ℕ) : Type 0 where
  pub long : length choices ≡ length codes
  pub each : (i : ℕ) → i < length codes → IsCodeOf (slice_index_or positions i []) (slice_index_or choices i None) (slice_index_or codes i 0)

-- a linkage in numbers
pub record IsPacked (positions : List (List Disjunct)) (g : Linkage) (v : Value) : Type 0 where
  pub cost : v.cost ≡ total_cost g
  pub span : v.span ≡ total_length g
  pub long : length v.choices ≡ length g.chosen
  pub choices : (i : ℕ) → IsCodeOf (slice_index_or positions i []) (chosen_at g i) (slice_index_or v.choices i 0)
  pub links : v.links ≡ g.links

-- no position of n is linked
abbrev pub unlinked_of : ℕ → Linkage
unlinked_of n = record { chosen = replicate n None; links = [] }

-- what a node is asked for: the whole sentence with so many unlinked positions, or a region
pub data Subject : Type 0 where
  whole : ℕ → Subject
  region : Region → Subject

abbrev pub IsUnder : List (List Disjunct) → Subject → Linkage → Type 0
IsUnder positions (whole nulls) g = UnderWhole positions nulls g
IsUnder positions (region k) g = Under positions k g

-- Something is linked in each linkage of the node: the whole sentence has fewer unlinked positions than it has positions, and one
-- of the two lists of a region is not empty.
abbrev pub IsSubject : List (List Disjunct) → Subject → Type 0
IsSubject positions (whole nulls) = nulls < length positions
IsSubject positions (region k) = IsValid positions k × (k.llist ≡ [] → k.rlist ≡ [] → ⊥)

-- the link of a joint of L and R
abbrev pub joint_link : Option Joint → ℕ → ℕ → Option Link
joint_link None L R = None
joint_link (Some j) L R = Some (record { left = L; lplace = j.near; right = R; rplace = j.far })

abbrev pub length_of : Option Link → ℕ
length_of None = 0
length_of (Some l) = link_length l

-- The part of node k that lies under a region is that of a lower node, or nothing, where nothing can be linked.
abbrev pub IsPartFor : (ℕ → Subject) → ℕ → Option ℕ → Region → Type 0
IsPartFor subjects k None r = (r.llist ≡ []) × (r.rlist ≡ []) × (r.nulls ≡ r.right - suc r.left)
IsPartFor subjects k (Some j) r = (j < k) × (subjects j ≡ region r)

-- a way with its word, its disjunct and its joints
pub record IsWord (positions : List (List Disjunct)) (w : Way) (word : ℕ) (d : Disjunct) (near far : Option Link) : Type 0 where
  pub word_is : w.word ≡ word
  pub choice : IsCodeOf (slice_index_or positions word []) (Some d) w.choice
  pub cost : w.cost ≡ d.cost
  pub span : w.span ≡ length_of near + length_of far
  pub near_is : w.near ≡ near
  pub far_is : w.far ≡ far

-- way w of node k stands for a cut of a region
pub record IsSplitWay (positions : List (List Disjunct)) (subjects : ℕ → Subject) (k : ℕ) (r : Region) (w : Way) (c : Split) : Type 0 where
  pub cut : IsCut positions r c
  pub word : IsWord positions w c.word c.disjunct (joint_link c.to_left r.left c.word) (joint_link c.to_right c.word r.right)
  pub left : IsPartFor subjects k w.left c.lkey
  pub right : IsPartFor subjects k w.right c.rkey

-- and for a first word of the whole sentence
pub record IsFirstWay (positions : List (List Disjunct)) (subjects : ℕ → Subject) (k nulls : ℕ) (w : Way) (c : First) : Type 0 where
  pub first : IsFirst positions nulls c
  pub word : IsWord positions w c.word c.disjunct None None
  pub left : w.left ≡ None
  pub right : IsPartFor subjects k w.right c.rkey

-- a cut that some linkage has
pub data Cutting : Type 0 where
  split_at : Split → Cutting
  begins_at : First → Cutting

abbrev pub IsWayFor : List (List Disjunct) → (ℕ → Subject) → ℕ → Subject → Way → Cutting → Type 0
IsWayFor positions subjects k (whole nulls) w (begins_at c) = IsFirstWay positions subjects k nulls w c
IsWayFor positions subjects k (region r) w (split_at c) = IsSplitWay positions subjects k r w c
IsWayFor positions subjects k _ w _ = ⊥

abbrev pub IsCutting : List (List Disjunct) → Subject → Cutting → Type 0
IsCutting positions (whole nulls) (begins_at c) = IsFirst positions nulls c × HasLinkage positions c.rkey
IsCutting positions (region r) (split_at c) = IsCut positions r c × HasLinkage positions c.lkey × HasLinkage positions c.rkey
IsCutting positions _ _ = ⊥

-- The ways of each node stand for its cuts that some linkage has, each once.
pub record IsForestOf (positions : List (List Disjunct)) (z : Value) (forest : List (List Way)) (subjects : ℕ → Subject) : Type 0 where
  pub problem : IsProblem positions
  pub nothing : IsPacked positions (unlinked_of (length positions)) z
  pub each : (k : ℕ) → k < length forest → IsSubject positions (subjects k)
  pub ways : (k p : ℕ) → p < length (ways_of forest k) → (c : Cutting) × IsWayFor positions subjects k (subjects k) (way_at forest k p) c
  pub once : (k p q : ℕ) (c : Cutting) → p < length (ways_of forest k) → q < length (ways_of forest k) → IsWayFor positions subjects k (subjects k) (way_at forest k p) c → IsWayFor positions subjects k (subjects k) (way_at forest k q) c → p ≡ q
  pub all : (k : ℕ) (c : Cutting) → k < length forest → IsCutting positions (subjects k) c → (p : ℕ) × (p < length (ways_of forest k)) × IsWayFor positions subjects k (subjects k) (way_at forest k p) c

-- The values of a node are the linkages under what it stands for, in numbers, and they follow the order of their parts.
pub record ForestsStandForLinkages : Type 0 where
  pub forest : (positions : List (List Disjunct)) (z : Value) (forest : List (List Way)) (subjects : ℕ → Subject) → IsForestOf positions z forest subjects → IsForest z forest
  pub values : (positions : List (List Disjunct)) (z : Value) (forest : List (List Way)) (subjects : ℕ → Subject) (k : ℕ) (v : Value) → IsForestOf positions z forest subjects → k < length forest
      → Has z forest (Some k) v ↔ ((g : Linkage) × IsUnder positions (subjects k) g × IsPacked positions g v)
  pub numbers : (positions : List (List Disjunct)) (z : Value) (forest : List (List Way)) (subjects : ℕ → Subject) (k : ℕ) (g : Linkage) → IsForestOf positions z forest subjects → k < length forest → IsUnder positions (subjects k) g → (v : Value) × IsPacked positions g v
