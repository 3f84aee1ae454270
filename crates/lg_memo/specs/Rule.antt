-- The rule of a memo: what is always true of its words, of its slots and of all views.
use Rattle.std.specs.Prelude.{◌≡◌, ℕ, ◌+◌, ◌*◌, ◌^◌, ◌%◌, ◌<◌, ◌≤◌, ◌↔◌, true, Some, List, length, slice_index, IfSome, IfNone}
use Rattle.std.specs.List.{AllByRecursion}
use mathlib.Core.Option.{Option, none, some}
use lib.ListN.{get_elem?}
use Rattle.atomic_table.specs.Table.{State}
use Rattle.lg_memo.specs.declared.view.About.{About}
use Rattle.lg_memo.specs.declared.view.Count.{Count}
use Rattle.lg_memo.specs.declared.view.View.{View}
use Rattle.lg_memo.specs.Entries.{AreRight}
use Rattle.lg_memo.specs.Views.{counted, has_number, spent_view}

-- A shard is at home with so many entries, or out with the seat of this number, which took so many.
pub data Place : Type 0 where
  home : ℕ → Place
  out : ℕ → ℕ → Place

abbrev pub count_of : Place → ℕ
count_of (home entries) = entries
count_of (out seat entries) = entries

-- the word of a shard: twice the count of its entries, and one more while it is out
abbrev pub word_of : Place → ℕ
word_of (home entries) = 2 * entries
word_of (out seat entries) = 2 * entries + 1

-- What a shard at home holds: its number, so many entries, and all of them right under the name of the memo.
pub record IsStored {N K V : Type 0} (Right : N → K → V → Type 0) (name : N) (shard entries : ℕ) (number : ℕ) (pairs : List (K × V)) : Type 0 where
  pub same_number : number ≡ shard
  pub size : length pairs ≡ entries
  pub right : AreRight Right name pairs

-- a slot is at home with what is good for the shard and this count, or it is out
abbrev pub IsSlot : {S : Type 0} → (ℕ → S → Type 0) → Place → Option (Option S) → Type 0
IsSlot {S} Good (home entries) slot = (content : S) × (slot ≡ some (some content)) × Good entries content
IsSlot {S} Good (out seat entries) slot = slot ≡ some none

-- the word and the slot of a shard tell where it is
pub record IsShard {S V : Type 0} (Good : ℕ → S → Type 0) (state : State S V) (shard : ℕ) (place : Place) : Type 0 where
  pub word : slice_index state.words shard ≡ word_of place
  pub slot : IsSlot Good place (get_elem? state.homes shard)
  pub few : count_of place ≤ 2 ^ 62

-- the seat of this number has the shard, and took so many entries
pub record Holds {N : Type 0} (views : List (View N)) (seat shard entries : ℕ) : Type 0 where
  pub view : View N
  pub there : get_elem? views seat ≡ some view
  pub has : view.has ≡ Some (counted shard entries)

-- the seat of this number stands for the seat that had this number when the memo was made
pub record Stands {N : Type 0} (views : List (View N)) (seat n : ℕ) : Type 0 where
  pub view : View N
  pub there : get_elem? views seat ≡ some view
  pub has : has_number view.numbers n ≡ true

-- The view of the seat of this number knows its memo. Its seat owns the numbers in it, at least one of them a seat's. It knows of no more
-- entries than there are, and the shard that it has is out with it. A view with no memo is that of a seat that was joined to another.
pub record Fits {N : Type 0} (about : About N) (place : ℕ → Place) (owner : ℕ → ℕ) (seat : ℕ) (v : View N) : Type 0 where
  pub same : IfSome v.about (λ a. a ≡ about)
  pub owned : (n : ℕ) → has_number v.numbers n ≡ true → owner n ≡ seat
  pub stands : IfSome v.about (λ _. (n : ℕ) × (n < about.seats) × (has_number v.numbers n ≡ true))
  pub known : AllByRecursion (λ (c : Count). c.entries ≤ count_of (place c.shard)) v.known
  pub has : IfSome v.has (λ t. (t.shard < about.shards) × (place t.shard ≡ out seat t.entries))
  pub spent : IfNone v.about (v ≡ spent_view)

-- There is one place of each shard, and one owner of each number, that all views fit. A shard that is out is had by the view of its seat, and
-- each number stands in the view of its owner.
pub record IsKept {N S : Type 0} (Good : About N → ℕ → ℕ → S → Type 0) (about : About N) (state : State S (View N)) : Type 0 where
  pub place : ℕ → Place
  pub owner : ℕ → ℕ
  pub words : length state.words ≡ about.shards
  pub slots : length state.homes ≡ about.shards
  pub shards : (shard : ℕ) → shard < about.shards → IsShard (Good about shard) state shard (place shard)
  pub holders : (shard seat entries : ℕ) → place shard ≡ out seat entries → Holds state.views seat shard entries
  pub seated : (n : ℕ) → n < about.seats → Stands state.views (owner n) n
  pub fit : (seat : ℕ) (v : View N) → get_elem? state.views seat ≡ some v → Fits about place owner seat v

-- In every state that keeps the rule, the word of a shard is odd exactly where some seat has the shard.
abbrev pub OddIsTaken : {N S : Type 0} → (About N → State S (View N) → Type 0) → Type 0
OddIsTaken {N} {S} Kept =
    (about : About N) (state : State S (View N)) → Kept about state → (shard : ℕ) → shard < about.shards
    → (slice_index state.words shard % 2 ≡ 1) ↔ ((seat : ℕ) × (entries : ℕ) × Holds state.views seat shard entries)

-- In every state that keeps the rule, no shard is had by two seats.
abbrev pub NoShardTwice : {N S : Type 0} → (About N → State S (View N) → Type 0) → Type 0
NoShardTwice {N} {S} Kept =
    (about : About N) (state : State S (View N)) → Kept about state
    → (a b shard m n : ℕ) → Holds state.views a shard m → Holds state.views b shard n → a ≡ b

-- In every state that keeps the rule, each number of a seat stands in exactly one view.
abbrev pub EachInOneView : {N S : Type 0} → (About N → State S (View N) → Type 0) → Type 0
EachInOneView {N} {S} Kept =
    (about : About N) (state : State S (View N)) → Kept about state → (n : ℕ) → n < about.seats
    → (seat : ℕ) × Stands state.views seat n × ((other : ℕ) → Stands state.views other n → other ≡ seat)
