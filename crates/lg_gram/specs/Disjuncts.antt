-- The disjuncts of a word, and their order.
use Rattle.std.specs.Prelude.{◌≡◌, ◌↔◌, ℕ, List, ◌≤ℤ◌}
use Rattle.std.specs.List.{Contains}
use Rattle.std.specs.List.Sorted.{IsStrictlySortedBy}
use Rattle.std.specs.Ordering.{nat_cmp, on, then_cmp}
use Rattle.std.specs.declared.cmp.Ordering.{Ordering}
use Rattle.std.specs.Cmp.Lexicographic.{slice_cmp}
use Rattle.lg_gram.specs.Connectors.{connector_cmp}
use Rattle.lg_gram.specs.Trees.{Tree}
use Rattle.lg_gram.specs.Measures.{Choice, choices_of}
use Rattle.lg_gram.specs.declared.disjunct.Disjunct.{Disjunct}

-- by word, then left list, then right list
abbrev pub disjunct_cmp : Disjunct → Disjunct → Ordering
disjunct_cmp = then_cmp (on (λ d. d.word) (slice_cmp nat_cmp)) (then_cmp (on (λ d. d.left) (slice_cmp connector_cmp)) (on (λ d. d.right) (slice_cmp connector_cmp)))

abbrev pub choice_of : Disjunct → Choice
choice_of d = record { left = d.left; right = d.right; cost = d.cost }

-- a choice of the word's expression, and none of the same two lists is cheaper
pub record IsDisjunctOf (word : List ℕ) (t : Tree) (d : Disjunct) : Type 0 where
  pub named : d.word ≡ word
  pub chosen : Contains (choices_of t) (choice_of d)
  pub least : (c : Choice) → Contains (choices_of t) c → c.left ≡ d.left → c.right ≡ d.right → d.cost ≤ℤ c.cost

-- the disjuncts of a word, in order, each once
pub record AreDisjuncts (word : List ℕ) (t : Tree) (ds : List Disjunct) : Type 0 where
  pub rise : IsStrictlySortedBy disjunct_cmp ds
  pub exactly : (d : Disjunct) → Contains ds d ↔ IsDisjunctOf word t d
