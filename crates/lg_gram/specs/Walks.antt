-- Walks, by which positions hang together.
use Rattle.std.specs.Prelude.{◌≡◌, ℕ}
use Rattle.lg_gram.specs.declared.linkage.Link.{Link}

-- a walk over edges, each taken in either direction
pub data Walk (Edge : ℕ → ℕ → Type 0) : ℕ → ℕ → Type 0 where
  stay : (i : ℕ) → Walk Edge i i
  forth : (i k j : ℕ) → Edge i k → Walk Edge k j → Walk Edge i j
  back : (i k j : ℕ) → Edge k i → Walk Edge k j → Walk Edge i j

-- some link of a set joins position a and position b
abbrev pub LinkFrom : (Link → Type 0) → ℕ → ℕ → Type 0
LinkFrom Has a b = (l : Link) × Has l × (l.left ≡ a) × (l.right ≡ b)
