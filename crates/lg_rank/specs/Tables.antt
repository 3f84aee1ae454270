-- A table of nodes, each with the values that were made so far.
use Rattle.std.specs.Prelude.{◌≡◌, ◌≢◌, ℕ, suc, ◌+◌, ◌<◌, ◌≤◌, Bool, true, false, List, [], ◌∷◌, ◌++◌, ◌⊎◌, length, Option, Some, None, slice_get, slice_index_or, map}
use Rattle.std.specs.BinaryHeap.{heap_items, heap_len, heap_capacity}
use Rattle.std.specs.Vec.{vec_len, vec_capacity}
use Rattle.lg_rank.specs.Fronts.{IsAll, IsFront, Extends, AtMost}
use Rattle.lg_rank.specs.Merges.{Merged, Advanced, PlaceRow, Row as Seen, seen_by}
use Rattle.lg_rank.specs.Queues.{least_part, waiting_list, IsLeastOf, IsQueue, IsFirstAt, Requeued}
use Rattle.lg_rank.specs.Values.{Value, value_of, value_cmp, combine}
use Rattle.lg_rank.specs.Nodes.{Has, ways_of, way_at, setting}
use Rattle.lg_rank.specs.declared.part.Part.{Part}
use Rattle.lg_rank.specs.declared.part.Way.{Way}
use Rattle.lg_rank.specs.declared.node.Choice.{Choice}
use Rattle.lg_rank.specs.declared.node.Row.{Row}
use Rattle.lg_rank.specs.declared.node.Node.{Node}
use Rattle.lg_rank.specs.declared.queue.Waiting.{Waiting}

abbrev pub forest_of : List Node → List (List Way)
forest_of nodes = map (λ n. n.ways.items) nodes

abbrev pub values_of : Node → List Value
values_of n = map value_of n.made.items

abbrev pub made_in : Option Node → List Value
made_in None = []
made_in (Some n) = values_of n

-- the values of node k that were made
abbrev pub made_at : List Node → ℕ → List Value
made_at nodes k = made_in (slice_get nodes k)

-- the values of a node that can be read: those that were made, and the least that waits
abbrev pub ready_of : Node → List Value
ready_of n = values_of n ++ least_part (heap_items n.queue)

abbrev pub ready_in : Option Node → List Value
ready_in None = []
ready_in (Some n) = ready_of n

-- the values of node k that can be read
abbrev pub ready_at : List Node → ℕ → List Value
ready_at nodes k = ready_in (slice_get nodes k)

-- the values of a part that can be read
abbrev pub parts : Value → List Node → Option ℕ → List Value
parts z nodes None = z ∷ []
parts z nodes (Some j) = ready_at nodes j

abbrev pub place_of : Row → PlaceRow
place_of r = record { alt = r.way; at = r.at; next = r.next; live = r.live }

-- a row of node k with the value that its places lead to
abbrev pub seen : Value → List (List Way) → (Option ℕ → List Value) → ℕ → Row → Seen Value
seen z forest lists k r = seen_by (setting z forest k) z (λ p. lists (way_at forest k p).left) (λ p. lists (way_at forest k p).right) (place_of r)

-- the rows of the first n ways of node k
abbrev pub RowsOf : Value → List (List Way) → (Option ℕ → List Value) → ℕ → ℕ → List Value → List Row → Type 0
RowsOf z forest lists k n made rows = Merged (setting z forest k) (seen z forest lists k) n (λ p. lists (way_at forest k p).left) (λ p. lists (way_at forest k p).right) made rows

-- the value that a row of node k makes next, or none where it is spent
abbrev pub held_in : Value → List (List Way) → (Option ℕ → List Value) → ℕ → Row → Option Value
held_in z forest lists k r = (seen z forest lists k r).value

pub record IsNode (z : Value) (forest : List (List Way)) (lists : Option ℕ → List Value) (k : ℕ) (node : Node) : Type 0 where
  pub ways : node.ways.items ≡ ways_of forest k
  pub idle : node.begun ≡ false → values_of node ≡ []
  pub busy : node.begun ≡ true → RowsOf z forest lists k (length (ways_of forest k)) (values_of node) node.rows.items
  pub queue : node.begun ≡ true → IsQueue (held_in z forest lists k) node.rows.items (heap_items node.queue)
  pub front : IsFront value_cmp (Has z forest (Some k)) (ready_of node)

abbrev pub IsTable : Value → List Node → Type 0
IsTable z nodes = (k : ℕ) (node : Node) → slice_get nodes k ≡ Some node → IsNode z (forest_of nodes) (parts z nodes) k node

-- the nodes below n may have more values to read, and nothing else has changed
pub record Grown (n : ℕ) (old new : List Node) : Type 0 where
  pub forest : forest_of new ≡ forest_of old
  pub long : length new ≡ length old
  pub more : (k : ℕ) → Extends (ready_at old k) (ready_at new k)
  pub above : (k : ℕ) → n ≤ k → slice_get new k ≡ slice_get old k

-- one more than the node of a part
abbrev pub end_of : Option ℕ → ℕ
end_of None = 0
end_of (Some j) = suc j

-- whether the value at i can be read; where it cannot, each value of the part stands before i
abbrev pub IsNth : Value → List Node → Option ℕ → ℕ → Bool → Type 0
IsNth z nodes part i true = i < length (parts z nodes part)
IsNth z nodes part i false = (x : Value) → Has z (forest_of nodes) part x → (j : ℕ) × (j < i) × (slice_get (parts z nodes part) j ≡ Some x)

pub record IsBegun (nodes : List Node) (k : ℕ) : Type 0 where
  pub node : Node
  pub here : slice_get nodes k ≡ Some node
  pub begun : node.begun ≡ true

pub record IsIdle (nodes : List Node) (k : ℕ) : Type 0 where
  pub node : Node
  pub here : slice_get nodes k ≡ Some node
  pub idle : node.begun ≡ false

-- the node of a part is one of the table
abbrev pub IsPart : List Node → Option ℕ → Type 0
IsPart nodes part = (j : ℕ) → part ≡ Some j → j < length nodes

-- the row r after its value was taken
pub record GoesOn (z : Value) (nodes : List Node) (w : Way) (r after : Row) : Type 0 where
  pub way : after.way ≡ r.way
  pub at : after.at ≡ r.at
  pub next : after.next ≡ suc r.next
  pub live : IsNth z nodes w.left (suc r.next) after.live

-- the first row of the right part's value at j
pub record IsFirst (z : Value) (nodes : List Node) (p : ℕ) (w : Way) (j : ℕ) (b : Row) : Type 0 where
  pub way : b.way ≡ p
  pub at : b.at ≡ j
  pub next : b.next ≡ 0
  pub live : b.live ≡ true
  pub left : 0 < length (parts z nodes w.left)
  pub right : j < length (parts z nodes w.right)

-- that row, or none where a part has no such value
abbrev pub IsFirstOf : Value → List Node → ℕ → Way → ℕ → Option Row → Type 0
IsFirstOf z nodes p w j None = IsNth z nodes w.left 0 false ⊎ IsNth z nodes w.right j false
IsFirstOf z nodes p w j (Some b) = IsFirst z nodes p w j b

-- the row that begins when r is taken: none where r was begun before
pub record Begin (z : Value) (nodes : List Node) (w : Way) (r : Row) (first : Option Row) : Type 0 where
  pub later : r.next ≢ 0 → first ≡ None
  pub now : r.next ≡ 0 → IsFirstOf z nodes r.way w (suc r.at) first

-- the same of a table
abbrev pub held_by : Value → List Node → ℕ → Row → Option Value
held_by z nodes k = held_in z (forest_of nodes) (parts z nodes) k

abbrev pub rows_in : Option Node → List Row
rows_in None = []
rows_in (Some n) = n.rows.items

abbrev pub rows_at : List Node → ℕ → List Row
rows_at nodes k = rows_in (slice_get nodes k)

abbrev pub queue_in : Option Node → List Waiting
queue_in None = []
queue_in (Some n) = heap_items n.queue

abbrev pub queue_at : List Node → ℕ → List Waiting
queue_at nodes k = queue_in (slice_get nodes k)

-- the row at m holds the least value
pub record IsLeastRow (held : Row → Option Value) (rows : List Row) (m : ℕ) : Type 0 where
  pub row : Row
  pub here : slice_get rows m ≡ Some row
  pub value : Value
  pub live : held row ≡ Some value
  pub least : (k : ℕ) (t : Row) (v : Value) → slice_get rows k ≡ Some t → held t ≡ Some v → AtMost value_cmp value v

-- way p of node k
pub record IsWayOf (nodes : List Node) (k p : ℕ) (w : Way) : Type 0 where
  pub is : w ≡ way_at (forest_of nodes) k p
  pub left : end_of w.left ≤ k
  pub right : end_of w.right ≤ k

-- the row of node k that holds the least value, which is the first of the queue
pub record Chosen (z : Value) (nodes : List Node) (k : ℕ) (c : Choice) : Type 0 where
  pub begun : IsBegun nodes k
  pub row : slice_get (rows_at nodes k) c.place ≡ Some c.row
  pub least : IsLeastRow (held_by z nodes k) (rows_at nodes k) c.place
  pub first : IsFirstAt (queue_at nodes k) c.place
  pub way : IsWayOf nodes k c.row.way c.way

-- a row whose places are there, and lead to v
pub record Holds (z : Value) (nodes : List Node) (k : ℕ) (r : Row) : Type 0 where
  pub way_in : r.way < length (ways_of (forest_of nodes) k)
  pub left : r.next < length (parts z nodes (way_at (forest_of nodes) k r.way).left)
  pub right : r.at < length (parts z nodes (way_at (forest_of nodes) k r.way).right)

abbrev pub value_at : Value → List Node → ℕ → Row → Value
value_at z nodes k r = let w = way_at (forest_of nodes) k r.way in combine w (slice_index_or (parts z nodes w.left) r.next z) (slice_index_or (parts z nodes w.right) r.at z)

-- one more made part, row and waiting row find room
pub record HasRoom (node : Node) : Type 0 where
  pub made : vec_len node.made < vec_capacity node.made
  pub rows : vec_len node.rows < vec_capacity node.rows
  pub queue : heap_len node.queue < heap_capacity node.queue

-- the node after the part of the row at m was taken
pub record Puts (old : Node) (m : ℕ) (after : Row) (first : Option Row) (again opened : Option Waiting) (new : Node) : Type 0 where
  pub part : Part
  pub made : new.made.items ≡ old.made.items ++ part ∷ []
  pub rows : Advanced old.rows.items m after first new.rows.items
  pub queue : Requeued (heap_items old.queue) again opened part (heap_items new.queue)
  pub ways : new.ways.items ≡ old.ways.items
  pub begun : new.begun ≡ old.begun

pub record IsSameNode (old new : Node) : Type 0 where
  pub made : new.made.items ≡ old.made.items
  pub rows : new.rows.items ≡ old.rows.items
  pub queue : heap_items new.queue ≡ heap_items old.queue
  pub ways : new.ways.items ≡ old.ways.items
  pub begun : new.begun ≡ old.begun

-- the rows go to the node with their queue, and it begins
pub record Starts (old : Node) (rows : List Row) (queue : List Waiting) (new : Node) : Type 0 where
  pub made : new.made.items ≡ old.made.items
  pub rows_are : new.rows.items ≡ rows
  pub queue_is : heap_items new.queue ≡ queue
  pub ways : new.ways.items ≡ old.ways.items
  pub begun : new.begun ≡ true

-- another queue, and the same node
pub record Shows (old : Node) (queue : List Waiting) (new : Node) : Type 0 where
  pub made : new.made.items ≡ old.made.items
  pub rows : new.rows.items ≡ old.rows.items
  pub queue_is : heap_items new.queue ≡ queue
  pub ways : new.ways.items ≡ old.ways.items
  pub begun : new.begun ≡ old.begun

-- the least part that the rows make with which node k would begin waits alone, or none where they make none
pub record IsPeeked (z : Value) (nodes : List Node) (k : ℕ) (queue : List Waiting) : Type 0 where
  pub rows : List Row
  pub all : RowsOf z (forest_of nodes) (parts z nodes) k (length (ways_of (forest_of nodes) k)) [] rows
  pub least : Option Waiting
  pub is_least : IsLeastOf (held_by z nodes k) rows least
  pub queue_is : queue ≡ waiting_list least

-- node k has changed, and is begun
pub record Stepped (z : Value) (old new : List Node) (k : ℕ) : Type 0 where
  pub table : IsTable z new
  pub grown : Grown (suc k) old new
  pub begun : IsBegun new k

-- whether one more value was made; where none was, all are there
abbrev pub Advances : Value → List Node → List Node → ℕ → Bool → Type 0
Advances z old new k true = length (made_at new k) ≡ length (made_at old k) + 1
Advances z old new k false = (made_at new k ≡ made_at old k) × IsAll (Has z (forest_of new) (Some k)) (made_at new k)

abbrev pub row_list : Option Row → List Row
row_list None = []
row_list (Some r) = r ∷ []
