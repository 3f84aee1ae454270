-- Which disjuncts can have all their links, if others that can have theirs are there.
use Rattle.std.specs.Prelude.{◌≡◌, ◌↔◌, ℕ, ◌+◌, ◌<◌, ◌≤◌, max, List, [], length, Some, slice_get, slice_index_or}
use Rattle.std.specs.List.{Contains}
use Rattle.lg_gram.specs.Connectors.{Connector, Match}
use Rattle.lg_gram.specs.Linkages.{Linkage}
use Rattle.lg_gram.specs.Problems.{IsProblem}
use Rattle.lg_gram.specs.Rules.{Good}
use Rattle.lg_gram.specs.declared.disjunct.Disjunct.{Disjunct}

-- Among n positions, the connector at place p of the right list of a, at position i, and the one at place q of the left list of b, at
-- position j, can be linked: they match, the links of the connectors before them end between i and j, each at a position of its own,
-- and those behind them have positions left to end at.
pub record ArePartners (n i : ℕ) (a : Disjunct) (p j : ℕ) (b : Disjunct) (q : ℕ) : Type 0 where
  pub match_at : (x : Connector) × (y : Connector) × (slice_get a.right p ≡ Some x) × (slice_get b.left q ≡ Some y) × Match x y
  pub between : i + max p q + 1 ≤ j
  pub to_right : j + length a.right ≤ n + p
  pub to_left : length b.left ≤ i + q + 1

-- A set of disjuncts at positions keeps itself: each is one of its position, and each connector of each has a partner among them.
pub record KeepsItself (positions : List (List Disjunct)) (members : List (ℕ × Disjunct)) : Type 0 where
  pub listed : (i : ℕ) (d : Disjunct) → Contains members (i, d) → Contains (slice_index_or positions i []) d
  pub right : (i : ℕ) (a : Disjunct) (p : ℕ) → Contains members (i, a) → p < length a.right
      → (j : ℕ) × (b : Disjunct) × (q : ℕ) × Contains members (j, b) × ArePartners (length positions) i a p j b q
  pub left : (j : ℕ) (b : Disjunct) (q : ℕ) → Contains members (j, b) → q < length b.left
      → (i : ℕ) × (a : Disjunct) × (p : ℕ) × Contains members (i, a) × ArePartners (length positions) i a p j b q

-- a disjunct is alive at a position where it is in some set that supports itself
abbrev pub IsAlive : List (List Disjunct) → ℕ → Disjunct → Type 0
IsAlive positions i d = (members : List (ℕ × Disjunct)) × KeepsItself positions members × Contains members (i, d)

-- at each position exactly the disjuncts that are alive there, as a problem has them: in order, each once
pub record IsPruned (positions pruned : List (List Disjunct)) : Type 0 where
  pub is_problem : IsProblem pruned
  pub same_length : length pruned ≡ length positions
  pub exactly : (i : ℕ) (d : Disjunct) → Contains (slice_index_or pruned i []) d ↔ IsAlive positions i d

-- the pruned problem has the good linkages of the whole one, and no others
abbrev pub PruningKeepsLinkages : Type 0
PruningKeepsLinkages = (positions pruned : List (List Disjunct)) → IsPruned positions pruned → (g : Linkage) → Good positions g ↔ Good pruned g
