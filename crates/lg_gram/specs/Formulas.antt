-- Formulas: expressions within the limits.
use Rattle.std.specs.Prelude.{◌≡◌, ◌≤◌, ◌+◌, ◌*◌, ℕ, Bool, true, false, ◌&&◌, ℤ, pos, neg_ℤ, int_le}
use Rattle.lg_gram.specs.Limits.{FORMULA_NODES, FORMULA_CHOICES, SIDE, DEPTH, PRICE, LEVEL}
use Rattle.lg_gram.specs.Trees.{Tree, Trees, empty, leaf, all_of, one_of, priced, no_trees, tree}
use Rattle.lg_gram.specs.Measures.{node_count, choice_count, side_count, depth_of}

abbrev pub is_small_price : ℤ → Bool
is_small_price price = int_le (neg_ℤ (pos PRICE)) price && int_le price (pos PRICE)

-- each price lies within bounds
abbrev mutual
  pub prices_are_small : Tree → Bool
  prices_are_small empty = true
  prices_are_small (leaf c) = true
  prices_are_small (all_of ts) = prices_in_are_small ts
  prices_are_small (one_of ts) = prices_in_are_small ts
  prices_are_small (priced t price) = is_small_price price && prices_are_small t

  pub prices_in_are_small : Trees → Bool
  prices_in_are_small no_trees = true
  prices_in_are_small (tree t ts) = prices_are_small t && prices_in_are_small ts

pub record IsFormula (t : Tree) : Type 0 where
  pub nodes : node_count t ≤ FORMULA_NODES
  pub choices : choice_count t ≤ FORMULA_CHOICES
  pub left_side : side_count false t ≤ SIDE
  pub right_side : side_count true t ≤ SIDE
  pub depth : depth_of t ≤ DEPTH
  pub prices : prices_are_small t ≡ true

-- A level is the greatest number of brackets open at once, where a macro counts as one bracket round its own. It fits a
-- formula where it is within its limit and no leaf lies more than 3 * level + 2 steps below the root.
pub record LevelFits (level : ℕ) (formula : Tree) : Type 0 where
  pub few : level ≤ LEVEL
  pub depth : depth_of formula ≤ 3 * level + 2
