-- The measures of an expression, and those that it passes.
use Rattle.std.specs.Prelude.{◌≡◌, ℕ, ◌≤◌, min, max, Option, Some, None, nat_lt, true, false, if◌then◌else◌}
use Rattle.lg_gram.specs.Limits.{FORMULA_NODES, FORMULA_CHOICES, SIDE, COUNTED, SIDE_COUNTED}
use Rattle.lg_gram.specs.Measures.{node_count, choice_count, side_count}
use Rattle.lg_gram.specs.Trees.{Tree}
use Rattle.lg_gram.specs.declared.sizes.Sizes.{Sizes}
use Rattle.lg_gram.specs.declared.measures.Excess.{Excess}
use Rattle.lg_gram.specs.declared.measures.Excess.TheVariants.{Nodes, Choices, Side}

-- the connectors on the side that has more of them
abbrev pub longest_side : Tree → ℕ
longest_side t = max (side_count false t) (side_count true t)

-- the sizes are those of the expression
pub record HasSizes (t : Tree) (sizes : Sizes) : Type 0 where
  pub nodes : sizes.nodes ≡ node_count t
  pub choices : sizes.choices ≡ choice_count t
  pub left : sizes.left ≡ side_count false t
  pub right : sizes.right ≡ side_count true t

-- the expression keeps to the measures
pub record IsSmall (t : Tree) : Type 0 where
  pub nodes : node_count t ≤ FORMULA_NODES
  pub choices : choice_count t ≤ FORMULA_CHOICES
  pub side : longest_side t ≤ SIDE

-- the first measure that it passes, with what was counted
abbrev pub excess : Tree → Option Excess
excess t =
    if nat_lt FORMULA_NODES (node_count t) then Some (Nodes (min (node_count t) COUNTED))
    else if nat_lt FORMULA_CHOICES (choice_count t) then Some (Choices (min (choice_count t) COUNTED))
    else if nat_lt SIDE (longest_side t) then Some (Side (min (longest_side t) SIDE_COUNTED))
    else None
