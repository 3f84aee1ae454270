-- An expression as it is written, as a tree in which macros are named.
use Rattle.std.specs.Prelude.{ℕ, List, [], ◌∷◌, ◌++◌, map, ℤ}
use Rattle.lg_gram.specs.Connectors.{Connector}
use Rattle.lg_gram.specs.declared.entry.RawExpr.{RawExpr}
use Rattle.lg_gram.specs.declared.entry.RawExprs.{RawExprs}
use Rattle.lg_gram.specs.declared.entry.RawExpr.TheOpen.{RawExpr-F, Empty, Conn, Named, And, Or, Priced}
use Rattle.lg_gram.specs.declared.entry.RawExpr.TheFolds.{fold-RawExpr}

mutual
  pub data RawTree : Type 0 where
    raw_empty : RawTree
    raw_leaf : Connector → RawTree
    -- a macro's name, and the number of brackets open there
    named : List ℕ → ℕ → RawTree
    raw_all : RawTrees → RawTree
    raw_one : RawTrees → RawTree
    raw_priced : RawTree → ℤ → RawTree

  pub data RawTrees : Type 0 where
    no_raw_trees : RawTrees
    raw_tree : RawTree → RawTrees → RawTrees

abbrev pub raw_trees_of : List RawTree → RawTrees
raw_trees_of [] = no_raw_trees
raw_trees_of (t ∷ ts) = raw_tree t (raw_trees_of ts)

abbrev pub raw_step : RawExpr-F RawTree RawTrees → RawTree
raw_step Empty = raw_empty
raw_step (Conn c) = raw_leaf c
raw_step (Named name depth) = named name depth
raw_step (And ts) = raw_all ts
raw_step (Or ts) = raw_one ts
raw_step (Priced t cost) = raw_priced t.value cost

-- the tree of an expression as it is written
abbrev pub raw_tree_of : RawExpr → RawTree
raw_tree_of = fold-RawExpr RawTree RawTrees raw_step (λ ts. raw_trees_of ts.items.items)

-- the expressions of a list, and their trees
abbrev pub raw_items : RawExprs → List RawExpr
raw_items es = es.items.items

abbrev pub raw_trees_in : List RawExpr → RawTrees
raw_trees_in es = raw_trees_of (map raw_tree_of es)

-- the macros that it names, in reading order, each with the number of brackets open there
abbrev mutual
  pub macros_of : RawTree → List (List ℕ × ℕ)
  macros_of raw_empty = []
  macros_of (raw_leaf c) = []
  macros_of (named name depth) = (name, depth) ∷ []
  macros_of (raw_all ts) = macros_in ts
  macros_of (raw_one ts) = macros_in ts
  macros_of (raw_priced t price) = macros_of t

  pub macros_in : RawTrees → List (List ℕ × ℕ)
  macros_in no_raw_trees = []
  macros_in (raw_tree t ts) = macros_of t ++ macros_in ts
