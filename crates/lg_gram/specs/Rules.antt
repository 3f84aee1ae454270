-- Which linkages are good: the rules of the Link Grammar report, over what stands to the right and to the left of each position and over a set of links.
use Rattle.std.specs.Prelude.{◌≡◌, ℕ, ◌<◌, false, List, [], length, Option, Some, None, IsSome, slice_get, slice_index_or}
use Rattle.std.specs.List.{Contains}
use Rattle.std.specs.List.Sorted.{IsStrictlySortedBy}
use Rattle.lg_gram.specs.Connectors.{Connector, Match}
use Rattle.lg_gram.specs.Linkages.{Linkage, link_cmp}
use Rattle.lg_gram.specs.Walks.{Walk, LinkFrom}
use Rattle.lg_gram.specs.declared.disjunct.Disjunct.{Disjunct}
use Rattle.lg_gram.specs.declared.linkage.Link.{Link}

-- what position i uses: none where it is unlinked, and past the end
abbrev pub chosen_at : Linkage → ℕ → Option Disjunct
chosen_at g i = slice_index_or g.chosen i None

abbrev pub left_list : Option Disjunct → List Connector
left_list None = []
left_list (Some d) = d.left

abbrev pub right_list : Option Disjunct → List Connector
right_list None = []
right_list (Some d) = d.right

abbrev pub IsLinked : Linkage → ℕ → Type 0
IsLinked g i = IsSome (chosen_at g i)

abbrev pub HasLink : Linkage → Link → Type 0
HasLink g l = Contains g.links l

-- the connectors at the link's two places match
abbrev pub Joins : (ℕ → List Connector) → (ℕ → List Connector) → Link → Type 0
Joins rights lefts l =
    (a : Connector) × (b : Connector) × (slice_get (rights l.left) l.lplace ≡ Some a) × (slice_get (lefts l.right) l.rplace ≡ Some b) × Match a b

-- A connector, at a position and a place that `at` and `place` read off a link, has a link, and just one unless it is multi.
pub record Serves (Has : Link → Type 0) (at place : Link → ℕ) (i p : ℕ) (c : Connector) : Type 0 where
  pub some : (l : Link) × Has l × (at l ≡ i) × (place l ≡ p)
  pub one : c.multi ≡ false → (k l : Link) → Has k → Has l → at k ≡ i → place k ≡ p → at l ≡ i → place l ≡ p → k ≡ l

-- matching: each link goes to the right, and joins two connectors that match
pub record IsMatched (rights lefts : ℕ → List Connector) (Has : Link → Type 0) : Type 0 where
  pub forward : (l : Link) → Has l → l.left < l.right
  pub joins : (l : Link) → Has l → Joins rights lefts l

-- satisfaction: each connector of a linked word has its links
pub record IsSatisfied (rights lefts : ℕ → List Connector) (Has : Link → Type 0) : Type 0 where
  pub on_right : (i p : ℕ) (c : Connector) → slice_get (rights i) p ≡ Some c → Serves Has (λ l. l.left) (λ l. l.lplace) i p c
  pub on_left : (j q : ℕ) (c : Connector) → slice_get (lefts j) q ≡ Some c → Serves Has (λ l. l.right) (λ l. l.rplace) j q c

-- planarity: no two links cross
abbrev pub IsPlanar : (Link → Type 0) → Type 0
IsPlanar Has = (k l : Link) → Has k → Has l → k.left < l.left → l.left < k.right → k.right < l.right → ⊥

-- ordering: what is joined at an earlier place of a side is nearer
pub record IsOrdered (Has : Link → Type 0) : Type 0 where
  pub on_right : (k l : Link) → Has k → Has l → k.left ≡ l.left → k.lplace < l.lplace → k.right < l.right
  pub on_left : (k l : Link) → Has k → Has l → k.right ≡ l.right → k.rplace < l.rplace → l.left < k.left

-- exclusion: no two links join the same two positions
abbrev pub IsExclusive : (Link → Type 0) → Type 0
IsExclusive Has = (k l : Link) → Has k → Has l → k.left ≡ l.left → k.right ≡ l.right → k ≡ l

-- connectivity: any two linked positions are joined by a walk
abbrev pub IsConnected : (ℕ → Type 0) → (ℕ → ℕ → Type 0) → Type 0
IsConnected Linked Edge = (i j : ℕ) → Linked i → Linked j → Walk Edge i j

-- all rules but connectivity
pub record Rules (rights lefts : ℕ → List Connector) (Has : Link → Type 0) : Type 0 where
  pub matched : IsMatched rights lefts Has
  pub satisfied : IsSatisfied rights lefts Has
  pub planar : IsPlanar Has
  pub ordered : IsOrdered Has
  pub exclusive : IsExclusive Has

-- A linkage of the problem: each position uses a disjunct of its list or none, and the links are a set, written in order.
pub record Belongs (positions : List (List Disjunct)) (g : Linkage) : Type 0 where
  pub same_length : length g.chosen ≡ length positions
  pub listed : (i : ℕ) (d : Disjunct) → chosen_at g i ≡ Some d → Contains (slice_index_or positions i []) d
  pub set : IsStrictlySortedBy link_cmp g.links

-- what stands to the right of each position, and to the left
abbrev pub rights_of : Linkage → ℕ → List Connector
rights_of g i = right_list (chosen_at g i)

abbrev pub lefts_of : Linkage → ℕ → List Connector
lefts_of g i = left_list (chosen_at g i)

-- A good linkage of the problem: matching, satisfaction, planarity, ordering and exclusion, and connectivity of the linked words.
pub record Good (positions : List (List Disjunct)) (g : Linkage) : Type 0 where
  pub belongs : Belongs positions g
  pub rules : Rules (rights_of g) (lefts_of g) (HasLink g)
  pub connected : IsConnected (IsLinked g) (LinkFrom (HasLink g))
