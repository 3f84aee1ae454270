-- The values that alternatives make of their parts, in order and on demand.
use Rattle.std.specs.Prelude.{Bool, true, false, slice_index_or, ◌≡◌, ◌≢◌, ℕ, suc, ◌<◌, ◌≤◌, List, length, Option, Some, None, slice_get, ◌⊎◌}
use Rattle.std.specs.Cmp.{IsTotalOrder}
use Rattle.std.specs.declared.cmp.Ordering.{Ordering}
use Rattle.std.specs.declared.cmp.Ordering.TheVariants.{Less, Equal}
use Rattle.lg_rank.specs.Fronts.{IsIn, AtMost, IsFront}

-- an order of values, the values of the two parts of each alternative, and what an alternative makes of one of each
pub record Setting : Type 1 where
  pub V : Type 0
  pub cmp : V → V → Ordering
  pub HasL : ℕ → V → Type 0
  pub HasR : ℕ → V → Type 0
  pub combine : ℕ → V → V → V

-- the values of the first n alternatives
pub record Makes (s : Setting) (n : ℕ) (v : s.V) : Type 0 where
  pub alt : ℕ
  pub alt_in : alt < n
  pub x : s.V
  pub y : s.V
  pub left : s.HasL alt x
  pub right : s.HasR alt y
  pub is : v ≡ s.combine alt x y

-- The order of the whole follows that of each part, and no value is made twice.
pub record Laws (s : Setting) (n : ℕ) : Type 0 where
  pub total : IsTotalOrder s.cmp
  pub same : (v w : s.V) → Makes s n v → Makes s n w → s.cmp v w ≡ Equal → v ≡ w
  pub grows_left : (p : ℕ) (x z y : s.V) → p < n → s.HasL p x → s.HasL p z → s.HasR p y → s.cmp x z ≡ Less → s.cmp (s.combine p x y) (s.combine p z y) ≡ Less
  pub grows_right : (p : ℕ) (x y z : s.V) → p < n → s.HasL p x → s.HasR p y → s.HasR p z → s.cmp y z ≡ Less → s.cmp (s.combine p x y) (s.combine p x z) ≡ Less
  pub one : (p q : ℕ) (x y z w : s.V) → p < n → q < n → s.HasL p x → s.HasR p y → s.HasL q z → s.HasR q w → s.combine p x y ≡ s.combine q z w → (p ≡ q) × (x ≡ z) × (y ≡ w)

-- A row: alternative `alt` with the right part's value at `at`, and the left part's values in turn; `next` is the first that is not taken, and `value` what it makes, or none where the left part has no more.
pub record Row (V : Type 0) : Type 0 where
  pub alt : ℕ
  pub at : ℕ
  pub next : ℕ
  pub value : Option V

-- a row with this alternative and this place of the right part
pub record HasRow {V R : Type 0} (view : R → Row V) (rows : List R) (p j : ℕ) : Type 0 where
  pub place : ℕ
  pub row : R
  pub here : slice_get rows place ≡ Some row
  pub alt : (view row).alt ≡ p
  pub at : (view row).at ≡ j

-- what the row says of what comes next
abbrev pub Ahead : (s : Setting) → List s.V → List s.V → ℕ → ℕ → s.V → Option s.V → Type 0
Ahead s lefts made p i y None = (x : s.V) → s.HasL p x → (k : ℕ) × (k < i) × (slice_get lefts k ≡ Some x)
Ahead s lefts made p i y (Some w) = (x : s.V) × (slice_get lefts i ≡ Some x) × (w ≡ s.combine p x y) × (IsIn made w → ⊥)

pub record IsRow (s : Setting) (n : ℕ) (lefts rights : ℕ → List s.V) (made : List s.V) (r : Row s.V) : Type 0 where
  pub alt_in : r.alt < n
  pub y : s.V
  pub y_at : slice_get (rights r.alt) r.at ≡ Some y
  pub taken : (i : ℕ) → i < r.next → (x : s.V) × (slice_get (lefts r.alt) i ≡ Some x) × IsIn made (s.combine r.alt x y)
  pub ahead : Ahead s (lefts r.alt) made r.alt r.next y r.value

-- the last row of the alternative is not begun, and stands for all that are not there yet
pub record Open {V R : Type 0} (view : R → Row V) (rows : List R) (p : ℕ) : Type 0 where
  pub place : ℕ
  pub row : R
  pub here : slice_get rows place ≡ Some row
  pub alt : (view row).alt ≡ p
  pub first : (view row).next ≡ 0
  pub value : V
  pub live : (view row).value ≡ Some value
  pub filled : (j : ℕ) → j < (view row).at → HasRow view rows p j

-- each value of the right part has its row
abbrev pub Closed : (s : Setting) {R : Type 0} (view : R → Row s.V) → List s.V → List R → ℕ → Type 0
Closed s view rights rows p = (y : s.V) → s.HasR p y → (j : ℕ) × (slice_get rights j ≡ Some y) × HasRow view rows p j

abbrev pub Opened : (s : Setting) {R : Type 0} (view : R → Row s.V) (rights : List s.V) (rows : List R) → ℕ → Type 0
Opened s view rights rows p = Open view rows p ⊎ (Closed s view rights rows p ⊎ ((x : s.V) → s.HasL p x → ⊥))

-- the rows of the first n alternatives, where `made` was taken
pub record Merged (s : Setting) {R : Type 0} (view : R → Row s.V) (n : ℕ) (lefts rights : ℕ → List s.V) (made : List s.V) (rows : List R) : Type 0 where
  pub front : IsFront s.cmp (Makes s n) made
  pub each : (m : ℕ) (r : R) → slice_get rows m ≡ Some r → IsRow s n lefts rights made (view r)
  pub apart : (m k : ℕ) (r t : R) → slice_get rows m ≡ Some r → slice_get rows k ≡ Some t → (view r).alt ≡ (view t).alt → (view r).at ≡ (view t).at → m ≡ k
  pub opened : (p : ℕ) → p < n → Opened s view (rights p) rows p
  pub begins : (m k : ℕ) (r t : R) → slice_get rows m ≡ Some r → slice_get rows k ≡ Some t → (view r).alt ≡ (view t).alt → (view r).next ≡ 0 → (view t).at ≤ (view r).at

-- each part has the first of its values
pub record PartsAre (s : Setting) (n : ℕ) (lefts rights : ℕ → List s.V) : Type 0 where
  pub left : (p : ℕ) → p < n → IsFront s.cmp (s.HasL p) (lefts p)
  pub right : (p : ℕ) → p < n → IsFront s.cmp (s.HasR p) (rights p)

-- some row holds a value that is at most v
pub record IsBelow (s : Setting) {R : Type 0} (view : R → Row s.V) (rows : List R) (v : s.V) : Type 0 where
  pub place : ℕ
  pub row : R
  pub here : slice_get rows place ≡ Some row
  pub value : s.V
  pub live : (view row).value ≡ Some value
  pub least : AtMost s.cmp value v

-- the row at m holds the least value
pub record IsLeast (s : Setting) {R : Type 0} (view : R → Row s.V) (rows : List R) (m : ℕ) (r : R) (w : s.V) : Type 0 where
  pub here : slice_get rows m ≡ Some r
  pub live : (view r).value ≡ Some w
  pub least : (k : ℕ) (t : R) (v : s.V) → slice_get rows k ≡ Some t → (view t).value ≡ Some v → AtMost s.cmp w v

-- The rows after the one at m was taken: it goes on as `after`, and `begun`, where there is one, comes to the end.
pub record Advanced {R : Type 0} (rows : List R) (m : ℕ) (after : R) (begun : Option R) (rows' : List R) : Type 0 where
  pub here : slice_get rows' m ≡ Some after
  pub kept : (k : ℕ) (t : R) → slice_get rows k ≡ Some t → k ≢ m → slice_get rows' k ≡ Some t
  pub new : (t : R) → begun ≡ Some t → slice_get rows' (length rows) ≡ Some t
  pub from : (k : ℕ) (t : R) → slice_get rows' k ≡ Some t → ((k ≡ m) × (t ≡ after)) ⊎ (((k ≢ m) × (slice_get rows k ≡ Some t)) ⊎ ((k ≡ length rows) × (begun ≡ Some t)))

-- what the row at i of the left part makes with y, or none where the left part has no more
abbrev pub Following : (s : Setting) → List s.V → ℕ → ℕ → s.V → Option s.V → Type 0
Following s lefts p i y None = (x : s.V) → s.HasL p x → (k : ℕ) × (k < i) × (slice_get lefts k ≡ Some x)
Following s lefts p i y (Some w) = (x : s.V) × (slice_get lefts i ≡ Some x) × (w ≡ s.combine p x y)

-- the first row of a new value of the right part
pub record Begins (s : Setting) {R : Type 0} (view : R → Row s.V) (lefts rights : List s.V) (p j : ℕ) (b : R) : Type 0 where
  pub alt : (view b).alt ≡ p
  pub at : (view b).at ≡ j
  pub next : (view b).next ≡ 0
  pub x : s.V
  pub y : s.V
  pub x_at : slice_get lefts 0 ≡ Some x
  pub y_at : slice_get rights j ≡ Some y
  pub value : (view b).value ≡ Some (s.combine p x y)

-- how the row r, which holds the least value w, goes on
pub record Turn (s : Setting) {R : Type 0} (view : R → Row s.V) (lefts rights : ℕ → List s.V) (rows : List R) (m : ℕ) (r : R) (w : s.V) (after : R) (begun : Option R) : Type 0 where
  pub least : IsLeast s view rows m r w
  pub alt : (view after).alt ≡ (view r).alt
  pub at : (view after).at ≡ (view r).at
  pub next : (view after).next ≡ suc (view r).next
  pub value : (y : s.V) → slice_get (rights (view r).alt) (view r).at ≡ Some y → Following s (lefts (view r).alt) (view r).alt (suc (view r).next) y (view after).value
  pub begins : (b : R) → begun ≡ Some b → ((view r).next ≡ 0) × Begins s view (lefts (view r).alt) (rights (view r).alt) (view r).alt (suc (view r).at) b
  pub ends : begun ≡ None → (view r).next ≡ 0 → (y : s.V) → s.HasR (view r).alt y → (j : ℕ) × (j ≤ (view r).at) × (slice_get (rights (view r).alt) j ≡ Some y)

-- A row that holds places alone, and whether there is a value.
pub record PlaceRow : Type 0 where
  pub alt : ℕ
  pub at : ℕ
  pub next : ℕ
  pub live : Bool

abbrev pub held : {V : Type 0} → Bool → V → Option V
held false v = None
held true v = Some v

-- the row with the value that its places lead to
abbrev pub seen_by : (s : Setting) → s.V → (ℕ → List s.V) → (ℕ → List s.V) → PlaceRow → Row s.V
seen_by s d lefts rights r =
    record { alt = r.alt; at = r.at; next = r.next; value = held r.live (s.combine r.alt (slice_index_or (lefts r.alt) r.next d) (slice_index_or (rights r.alt) r.at d)) }
