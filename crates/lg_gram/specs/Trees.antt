-- An expression as a tree, without where it lies in memory.
use Rattle.std.specs.Prelude.{List, [], ◌∷◌, map, ℤ}
use Rattle.lg_gram.specs.Connectors.{Connector}
use Rattle.lg_gram.specs.declared.expr.Expr.{Expr}
use Rattle.lg_gram.specs.declared.expr.Exprs.{Exprs}
use Rattle.lg_gram.specs.declared.expr.Expr.TheOpen.{Expr-F, Empty, Conn, And, Or, Priced}
use Rattle.lg_gram.specs.declared.expr.Expr.TheFolds.{fold-Expr}

mutual
  pub data Tree : Type 0 where
    -- ()
    empty : Tree
    leaf : Connector → Tree
    -- members joined by `&`
    all_of : Trees → Tree
    -- members joined by `or`
    one_of : Trees → Tree
    -- an expression in square brackets, with their cost in thousandths
    priced : Tree → ℤ → Tree

  pub data Trees : Type 0 where
    no_trees : Trees
    tree : Tree → Trees → Trees

abbrev pub trees_of : List Tree → Trees
trees_of [] = no_trees
trees_of (t ∷ ts) = tree t (trees_of ts)

abbrev pub tree_step : Expr-F Tree Trees → Tree
tree_step Empty = empty
tree_step (Conn c) = leaf c
tree_step (And ts) = all_of ts
tree_step (Or ts) = one_of ts
tree_step (Priced t cost) = priced t.value cost

-- the tree of an expression
abbrev pub tree_of : Expr → Tree
tree_of = fold-Expr Tree Trees tree_step (λ ts. trees_of ts.items.items)

-- the expressions of a list, and their trees
abbrev pub expr_items : Exprs → List Expr
expr_items es = es.items.items

abbrev pub trees_in : List Expr → Trees
trees_in es = trees_of (map tree_of es)
