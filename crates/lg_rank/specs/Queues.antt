-- The rows of a node that still make a part: each waits with that part, the least part first.
use Rattle.std.specs.Prelude.{◌≡◌, ℕ, ◌==◌, Bool, List, [], ◌∷◌, ◌++◌, ◌⊎◌, Option, Some, None, slice_get}
use Rattle.std.specs.BinaryHeap.{IsHeap, KeepsHeap}
use Rattle.std.specs.List.{Contains, IsDistinct}
use Rattle.std.specs.List.Sorted.{IsPermutation}
use Rattle.std.specs.Ordering.{on, flip_args}
use Rattle.std.specs.declared.cmp.Ordering.{Ordering}
use Rattle.lg_rank.specs.Fronts.{AtMost}
use Rattle.lg_rank.specs.Values.{Value, value_of, value_cmp}
use Rattle.lg_rank.specs.declared.part.Part.{Part}
use Rattle.lg_rank.specs.declared.queue.Waiting.{Waiting}

-- a lesser part is greater, since a heap gives its greatest element first
abbrev pub waiting_cmp : Waiting → Waiting → Ordering
waiting_cmp = flip_args (on (λ w. value_of w.part) value_cmp)

abbrev pub same_place : Waiting → Waiting → Bool
same_place a b = a.place == b.place

abbrev pub waiting_list : Option Waiting → List Waiting
waiting_list None = []
waiting_list (Some w) = w ∷ []

-- the part of the first, which is the least, or none where no row waits
abbrev pub least_part : List Waiting → List Value
least_part [] = []
least_part (w ∷ rest) = value_of w.part ∷ []

-- the row at m makes v
pub record MakesAt {R : Type 0} (held : R → Option Value) (rows : List R) (m : ℕ) (v : Value) : Type 0 where
  pub row : R
  pub here : slice_get rows m ≡ Some row
  pub value : held row ≡ Some v

-- exactly the rows that make a value wait, each once
pub record Waits {R : Type 0} (held : R → Option Value) (rows : List R) (queue : List Waiting) : Type 0 where
  pub once : IsDistinct same_place queue
  pub sound : (w : Waiting) → Contains queue w → MakesAt held rows w.place (value_of w.part)
  pub all : (m : ℕ) (v : Value) → MakesAt held rows m v → (w : Waiting) × Contains queue w × (w.place ≡ m)

-- and the queue is a heap
pub record IsQueue {R : Type 0} (held : R → Option Value) (rows : List R) (queue : List Waiting) : Type 0 where
  pub heap : IsHeap waiting_cmp queue
  pub waits : Waits held rows queue

-- the first of the queue is the row at m
pub record IsFirstAt (queue : List Waiting) (m : ℕ) : Type 0 where
  pub first : Waiting
  pub here : slice_get queue 0 ≡ Some first
  pub place : first.place ≡ m

-- what the row r, which comes to stand at m, is to wait with: nothing where it makes nothing
abbrev pub IsWaiting : {R : Type 0} → (R → Option Value) → ℕ → R → Option Waiting → Type 0
IsWaiting held m r None = held r ≡ None
IsWaiting held m r (Some w) = (w.place ≡ m) × (held r ≡ Some (value_of w.part))

-- the same of a row that may not be there
abbrev pub IsOpened : {R : Type 0} → (R → Option Value) → ℕ → Option R → Option Waiting → Type 0
IsOpened held m None w = w ≡ None
IsOpened held m (Some r) w = IsWaiting held m r w

-- the first was taken out of the queue, and these two were put in
pub record Requeued (old : List Waiting) (again opened : Option Waiting) (part : Part) (new : List Waiting) : Type 0 where
  pub first : Waiting
  pub here : slice_get old 0 ≡ Some first
  pub part_is : part ≡ first.part
  pub rest : List Waiting
  pub taken : IsPermutation old (first ∷ rest)
  pub put : IsPermutation (waiting_list opened ++ (waiting_list again ++ rest)) new
  pub heap : KeepsHeap waiting_cmp old new

-- w is the least that the rows make, or they make none
abbrev pub IsLeastOf : {R : Type 0} → (R → Option Value) → List R → Option Waiting → Type 0
IsLeastOf {R} held rows None = (m : ℕ) (r : R) → slice_get rows m ≡ Some r → held r ≡ None
IsLeastOf {R} held rows (Some w) = MakesAt held rows w.place (value_of w.part) × ((m : ℕ) (r : R) (v : Value) → slice_get rows m ≡ Some r → held r ≡ Some v → AtMost value_cmp (value_of w.part) v)

-- the lesser of w and of what the row r makes, which stands at m
pub record IsLesser {R : Type 0} (held : R → Option Value) (m : ℕ) (r : R) (w next : Waiting) : Type 0 where
  pub either : (next ≡ w) ⊎ ((next.place ≡ m) × (held r ≡ Some (value_of next.part)))
  pub first : AtMost value_cmp (value_of next.part) (value_of w.part)
  pub other : (v : Value) → held r ≡ Some v → AtMost value_cmp (value_of next.part) v
