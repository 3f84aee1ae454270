-- Nodes for the keys of a forest.
use Rattle.std.specs.BinaryHeap.{heap_items}
use Rattle.std.specs.Prelude.{◌≡◌, ℕ, ◌<◌, ◌≤◌, Bool, true, false, List, [], ◌∷◌, ◌++◌, length, Option, None, Some, slice_get, slice_index_or, ◌⊎◌}
use Rattle.std.specs.Global.{Vec}
use Rattle.std.specs.List.{Contains}
use Rattle.std.specs.Map.{keys_of}
use Rattle.lg_gram.specs.Connectors.{Connector}
use Rattle.lg_gram.specs.declared.disjunct.Disjunct.{Disjunct}
use Rattle.lg_gram.specs.declared.linkage.Link.{Link}
use Rattle.lg_region.specs.Cuts.{Split}
use Rattle.lg_region.specs.Keys.{region_of_numbers, IsDisjunctAt, IsFirstOf, IsSplitOf, IsValidKey}
use Rattle.lg_region.specs.Laws.{HasKey}
use Rattle.lg_region.specs.Parts.{Region}
use Rattle.lg_region.specs.Whole.{First}
use Rattle.lg_region.specs.declared.alternative.Alt.{Alt}
use Rattle.lg_region.specs.declared.alternative.Alt.TheVariants.{Split as At}
use Rattle.lg_region.specs.declared.key.Joint.{Joint}
use Rattle.lg_region.specs.declared.key.Key.{Key}
use Rattle.lg_region.specs.declared.key.Key.TheVariants.{Whole, Region as Between}
use Rattle.lg_forest.specs.Demands.{IsDemanded}
use Rattle.lg_forest.specs.Drafts.{HasAlt}
use Rattle.lg_forest.specs.Forests.{Forest, IsForest}
use Rattle.lg_rank.specs.Meanings.{Subject, whole, region, IsSubject, joint_link, Cutting, IsWord, split_at, begins_at, IsWayFor, IsCutting}
use Rattle.lg_rank.specs.declared.node.Node.{Node}
use Rattle.lg_rank.specs.declared.part.Way.{Way}

-- what a key asks about
abbrev pub subject_of : List (List Connector) → Key → Subject
subject_of lists (Whole nulls) = whole nulls
subject_of lists (Between left right llist rlist nulls) = region (region_of_numbers lists left right llist rlist nulls)

-- node k is asked for what the key at k asks about
abbrev pub subjects_of : List (List Connector) → List Key → ℕ → Subject
subjects_of lists keys k = subject_of lists (slice_index_or keys k (Whole 0))

-- a region with two empty lists, in which nothing can be linked
abbrev pub IsNothing : Key → Type 0
IsNothing (Whole nulls) = ⊥
IsNothing (Between left right llist rlist nulls) = (llist ≡ 0) × (rlist ≡ 0)

-- the key stands first at this place
abbrev pub IsFirstPlace : List Key → Key → ℕ → Type 0
IsFirstPlace keys key k = (slice_get keys k ≡ Some key) × ((j : ℕ) → slice_get keys j ≡ Some key → k ≤ j)

-- the key has this number: it is new and comes to the end, or it was there
abbrev pub AddsKey : List Key → Key → List Key → ℕ → Bool → Type 0
AddsKey old key new number true = (new ≡ old ++ key ∷ []) × (number ≡ length old)
AddsKey old key new number false = (new ≡ old) × (slice_get old number ≡ Some key)

-- the key stands before place k
abbrev pub IsBefore : List Key → ℕ → Key → Type 0
IsBefore keys k key = (j : ℕ) × (j < k) × (slice_get keys j ≡ Some key)

-- the lower node of a part of node k: none where there is no key, or nothing can be linked
abbrev pub IsNumberFor : List Key → ℕ → Option Key → Option ℕ → Type 0
IsNumberFor keys k None o = o ≡ None
IsNumberFor keys k (Some key) None = IsNothing key
IsNumberFor keys k (Some key) (Some j) = (j < k) × (slice_get keys j ≡ Some key)

-- a key that gets a node: it was asked for, and something is linked in each of its linkages
pub record GetsNodeBy (positions : List (List Disjunct)) (lists : List (List Connector)) (from to : ℕ) (key : Key) : Type 0 where
  pub valid : IsValidKey positions lists key
  pub links : IsSubject positions (subject_of lists key)
  pub demanded : IsDemanded positions lists from to key

abbrev pub GetsNode : List (List Disjunct) → Forest → Key → Type 0
GetsNode positions forest key = (from : ℕ) (is : IsForest positions from forest) → GetsNodeBy positions is.lists from forest.unused key

-- each key of a part of a live alternative has P, where something can be linked
abbrev pub EachPart : Forest → Key → (Key → Type 0) → Type 0
EachPart forest key P = (a : Alt) (part : Key) → HasAlt forest key a → HasKey a part → IsNothing part ⊎ P part

-- keys that get nodes, parts before wholes
pub record ArePlaced (positions : List (List Disjunct)) (forest : Forest) (keys : List Key) : Type 0 where
  pub each : (k : ℕ) (key : Key) → slice_get keys k ≡ Some key → GetsNode positions forest key
  pub below : (k : ℕ) (key : Key) → slice_get keys k ≡ Some key → EachPart forest key (IsBefore keys k)

-- the key of the whole sentence, or none where all positions are unlinked
abbrev pub IsRootKey : List (List Disjunct) → List Key → ℕ → Option ℕ → Type 0
IsRootKey positions keys nulls None = nulls ≡ length positions
IsRootKey positions keys nulls (Some k) = slice_get keys k ≡ Some (Whole nulls)

-- the links of the joints of a word with the ends of what a key asks about
abbrev pub near_link : Key → ℕ → Option Joint → Option Link
near_link (Whole nulls) word joint = None
near_link (Between left right llist rlist nulls) word joint = joint_link joint left word

abbrev pub far_link : Key → ℕ → Option Joint → Option Link
far_link (Whole nulls) word joint = None
far_link (Between left right llist rlist nulls) word joint = joint_link joint word right

-- an alternative stands for a first word
pub record IsFirstAlt (positions : List (List Disjunct)) (lists : List (List Connector)) (nulls : ℕ) (c : First) (a : Alt) : Type 0 where
  pub word : ℕ
  pub number : ℕ
  pub rkey : Key
  pub is : a ≡ At word number None None None (Some rkey)
  pub means : IsFirstOf positions lists nulls word number rkey c

-- an alternative stands for a cut of a region
pub record IsSplitAlt (positions : List (List Disjunct)) (lists : List (List Connector)) (r : Region) (c : Split) (a : Alt) : Type 0 where
  pub word : ℕ
  pub number : ℕ
  pub to_left : Option Joint
  pub to_right : Option Joint
  pub lkey : Key
  pub rkey : Key
  pub is : a ≡ At word number to_left to_right (Some lkey) (Some rkey)
  pub means : IsSplitOf positions lists r word number to_left to_right lkey rkey c

abbrev pub IsAltFor : List (List Disjunct) → List (List Connector) → Key → Cutting → Alt → Type 0
IsAltFor positions lists (Whole nulls) (begins_at c) a = IsFirstAlt positions lists nulls c a
IsAltFor positions lists (Between left right llist rlist nulls) (split_at c) a = IsSplitAlt positions lists (region_of_numbers lists left right llist rlist nulls) c a
IsAltFor positions lists _ _ a = ⊥

-- the ways of node k stand for its cuts that some linkage has, each once
pub record AreWaysOf (positions : List (List Disjunct)) (subjects : ℕ → Subject) (k : ℕ) (ways : List Way) : Type 0 where
  pub each : (p : ℕ) (w : Way) → slice_get ways p ≡ Some w → (c : Cutting) × IsWayFor positions subjects k (subjects k) w c
  pub once : (p q : ℕ) (v w : Way) (c : Cutting) → slice_get ways p ≡ Some v → slice_get ways q ≡ Some w → IsWayFor positions subjects k (subjects k) v c → IsWayFor positions subjects k (subjects k) w c → p ≡ q
  pub all : (c : Cutting) → IsCutting positions (subjects k) c → (p : ℕ) × (w : Way) × (slice_get ways p ≡ Some w) × IsWayFor positions subjects k (subjects k) w c

-- no value was made yet
pub record IsFresh (node : Node) : Type 0 where
  pub idle : node.begun ≡ false
  pub made : node.made.items ≡ []
  pub waiting : heap_items node.queue ≡ []

-- the nodes of so many subjects
pub record AreNodesOf (positions : List (List Disjunct)) (subjects : ℕ → Subject) (count : ℕ) (nodes : List Node) : Type 0 where
  pub long : length nodes ≡ count
  pub ways : (k : ℕ) (node : Node) → slice_get nodes k ≡ Some node → AreWaysOf positions subjects k node.ways.items
  pub fresh : (k : ℕ) (node : Node) → slice_get nodes k ≡ Some node → IsFresh node

-- a way of node k stands for an alternative of its key: it has the word, the links of the joints, and the lower nodes of the parts
pub record IsWayOf (positions : List (List Disjunct)) (keys : List Key) (k : ℕ) (key : Key) (a : Alt) (w : Way) : Type 0 where
  pub word : ℕ
  pub number : ℕ
  pub to_left : Option Joint
  pub to_right : Option Joint
  pub lkey : Option Key
  pub rkey : Option Key
  pub is : a ≡ At word number to_left to_right lkey rkey
  pub has_word : (d : Disjunct) → IsDisjunctAt positions word number d → IsWord positions w word d (near_link key word to_left) (far_link key word to_right)
  pub left : IsNumberFor keys k lkey w.left
  pub right : IsNumberFor keys k rkey w.right

-- a way for each of the first n alternatives, in order
pub record AreInOrder (Stands : Alt → Way → Type 0) (alts : List Alt) (n : ℕ) (ways : List Way) : Type 0 where
  pub long : length ways ≡ n
  pub each : (p : ℕ) (w : Way) → slice_get ways p ≡ Some w → (a : Alt) × (slice_get alts p ≡ Some a) × Stands a w

-- the ways of all alternatives of a key: none where the forest does not have the key
abbrev pub HasWays : List (List Disjunct) → Forest → List Key → ℕ → Key → List Way → Type 0
HasWays positions forest keys k key ways =
    ((Contains (keys_of forest.entries) key → ⊥) × (ways ≡ []))
    ⊎ ((alts : List Alt) × Contains forest.entries (key, alts) × AreInOrder (IsWayOf positions keys k key) alts (length alts) ways)

-- a key has this number: it is new and comes to the end with its node, of which nothing was made; or it was there, and nothing changes
pub record PutsNode (old : List Key) (old_nodes : List Node) (key : Key) (ways : Vec Way) (keys : List Key) (nodes : List Node) (number : ℕ) : Type 0 where
  pub is_new : Bool
  pub adds : AddsKey old key keys number is_new
  pub known : is_new ≡ false → nodes ≡ old_nodes
  pub made : is_new ≡ true → (node : Node) × (nodes ≡ old_nodes ++ node ∷ []) × (node.ways ≡ ways) × IsFresh node

-- the keys that were walked to, parts before wholes, each with its node, of which nothing was made
pub record AreMade (positions : List (List Disjunct)) (forest : Forest) (keys : List Key) (nodes : List Node) : Type 0 where
  pub placed : ArePlaced positions forest keys
  pub long : length nodes ≡ length keys
  pub ways : (k : ℕ) (key : Key) (node : Node) → slice_get keys k ≡ Some key → slice_get nodes k ≡ Some node → HasWays positions forest keys k key node.ways.items
  pub fresh : (k : ℕ) (node : Node) → slice_get nodes k ≡ Some node → IsFresh node
