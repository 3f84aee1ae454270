-- What a formula stands for, and its measures.
use Rattle.std.specs.Prelude.{ℕ, ◌+◌, ◌*◌, max, List, [], ◌∷◌, ◌++◌, map, ℤ, pos, ◌+ℤ◌, Bool, if◌then◌else◌}
use Rattle.std.specs.List.{flat_map}
use Rattle.std.specs.Bool.{beq}
use Rattle.lg_gram.specs.Connectors.{Connector}
use Rattle.lg_gram.specs.Trees.{Tree, Trees, empty, leaf, all_of, one_of, priced, no_trees, tree}

-- One way to use an expression: connectors to the left and to the right, each from near to far, and what it costs.
pub record Choice : Type 0 where
  pub left : List Connector
  pub right : List Connector
  pub cost : ℤ

abbrev pub no_connectors : Choice
no_connectors = record { left = []; right = []; cost = pos 0 }

-- a connector alone, on its side
abbrev pub single : Connector → Choice
single c = if c.right then record { left = []; right = c ∷ []; cost = pos 0 } else record { left = c ∷ []; right = []; cost = pos 0 }

-- two choices one after another
abbrev pub joined : Choice → Choice → Choice
joined a b = record { left = a.left ++ b.left; right = a.right ++ b.right; cost = a.cost +ℤ b.cost }

abbrev pub dearer : ℤ → Choice → Choice
dearer price c = record c { cost = c.cost +ℤ price }

-- The choices of an expression. After the Link Grammar report: `&` takes one choice of each member, in the members' order; `or` takes a choice of one member. A cost is link-parser's.
abbrev mutual
  pub choices_of : Tree → List Choice
  choices_of empty = no_connectors ∷ []
  choices_of (leaf c) = single c ∷ []
  choices_of (all_of ts) = picks_of ts
  choices_of (one_of ts) = choices_of_any ts
  choices_of (priced t price) = map (dearer price) (choices_of t)

  -- every way to pick one choice of each member
  pub picks_of : Trees → List Choice
  picks_of no_trees = no_connectors ∷ []
  picks_of (tree t ts) = flat_map (λ a. map (joined a) (picks_of ts)) (choices_of t)

  -- the choices of each member, one list after another
  pub choices_of_any : Trees → List Choice
  choices_of_any no_trees = []
  choices_of_any (tree t ts) = choices_of t ++ choices_of_any ts

-- how many nodes an expression has
abbrev mutual
  pub node_count : Tree → ℕ
  node_count empty = 1
  node_count (leaf c) = 1
  node_count (all_of ts) = 1 + nodes_in ts
  node_count (one_of ts) = 1 + nodes_in ts
  node_count (priced t price) = 1 + node_count t

  pub nodes_in : Trees → ℕ
  nodes_in no_trees = 0
  nodes_in (tree t ts) = node_count t + nodes_in ts

-- how many choices it has
abbrev mutual
  pub choice_count : Tree → ℕ
  choice_count empty = 1
  choice_count (leaf c) = 1
  choice_count (all_of ts) = product_in ts
  choice_count (one_of ts) = choices_in ts
  choice_count (priced t price) = choice_count t

  pub product_in : Trees → ℕ
  product_in no_trees = 1
  product_in (tree t ts) = choice_count t * product_in ts

  pub choices_in : Trees → ℕ
  choices_in no_trees = 0
  choices_in (tree t ts) = choice_count t + choices_in ts

-- how many connectors it has on a side (true: the right) where it has the most
abbrev mutual
  pub side_count : Bool → Tree → ℕ
  side_count right empty = 0
  side_count right (leaf c) = if beq c.right right then 1 else 0
  side_count right (all_of ts) = side_in right ts
  side_count right (one_of ts) = longest_in right ts
  side_count right (priced t price) = side_count right t

  pub side_in : Bool → Trees → ℕ
  side_in right no_trees = 0
  side_in right (tree t ts) = side_count right t + side_in right ts

  pub longest_in : Bool → Trees → ℕ
  longest_in right no_trees = 0
  longest_in right (tree t ts) = max (side_count right t) (longest_in right ts)

-- how far its deepest leaf lies below the root
abbrev mutual
  pub depth_of : Tree → ℕ
  depth_of empty = 0
  depth_of (leaf c) = 0
  depth_of (all_of ts) = depth_in ts
  depth_of (one_of ts) = depth_in ts
  depth_of (priced t price) = 1 + depth_of t

  pub depth_in : Trees → ℕ
  depth_in no_trees = 0
  depth_in (tree t ts) = max (1 + depth_of t) (depth_in ts)
