-- Islands: positions that hang together by walks over links.
use Rattle.std.specs.Prelude.{◌≡◌, ◌≢◌, ◌↔◌, ◌⊎◌, ℕ, ◌<◌, ◌≤◌, List, length, slice_index}
use Rattle.std.specs.List.{Contains}
use Rattle.lg_gram.specs.Walks.{Walk, LinkFrom}
use Rattle.lg_gram.specs.declared.linkage.Link.{Link}

-- both ends of the link are among n positions
abbrev pub IsWithin : ℕ → Link → Type 0
IsWithin n l = (l.left < n) × (l.right < n)

-- a walk over these links joins the two positions
abbrev pub IsJoined : List Link → ℕ → ℕ → Type 0
IsJoined links = Walk (LinkFrom (Contains links))

-- two positions have the same label exactly where a walk joins them
abbrev pub AreIslands : List Link → List ℕ → Type 0
AreIslands links labels =
    (a b : ℕ) → a < length labels → b < length labels → (slice_index labels a ≡ slice_index labels b) ↔ IsJoined links a b

-- no label is above its position
abbrev pub GoDown : List ℕ → Type 0
GoDown labels = (k : ℕ) → k < length labels → slice_index labels k ≤ k

-- labels, followed from position to position, lead from each to its root, which has its own label
pub record LeadTo (labels : List ℕ) (roots : ℕ → ℕ) : Type 0 where
  pub same : (k : ℕ) → k < length labels → roots (slice_index labels k) ≡ roots k
  pub own : (k : ℕ) → k < length labels → slice_index labels k ≡ k → roots k ≡ k

-- the positions whose root is that of position u get the root of position v
pub record Turns (n : ℕ) (before : ℕ → ℕ) (u v : ℕ) (after : ℕ → ℕ) : Type 0 where
  pub turned : (k : ℕ) → k < n → before k ≡ before u → after k ≡ before v
  pub kept : (k : ℕ) → k < n → before k ≢ before u → after k ≡ before k

-- the islands of two positions become one, whose root is one of their roots
pub record Merges (old : List ℕ) (a b : ℕ) (new : List ℕ) : Type 0 where
  pub down : GoDown new
  pub roots : (before : ℕ → ℕ) → LeadTo old before → (after : ℕ → ℕ) × LeadTo new after × (Turns (length old) before a b after ⊎ Turns (length old) before b a after)
