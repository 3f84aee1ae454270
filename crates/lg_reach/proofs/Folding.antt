-- The tree of an expression in square brackets.
use Rattle.std.proofs.Common.{◌≡◌, ap, ◌∙◌}
use Rattle.lg_gram.specs.declared.expr.Exprs.{Exprs}
use Rattle.lg_gram.specs.declared.expr.Expr.{Expr, Priced', fold_out-Expr, map-Expr}
use Rattle.lg_gram.specs.declared.expr.Expr.TheVariants.{outs-Priced'}
use Rattle.lg_gram.specs.declared.expr.Expr.TheOpen.{Expr-F}
use Rattle.lg_gram.specs.declared.expr.Expr.TheFolds.{fold-Exprs}
use Rattle.lg_gram.specs.Trees.{Tree, Trees, priced, tree_of, tree_step, trees_of}

abbrev layer : Expr-F Expr Exprs → Tree
layer x = tree_step (map-Expr Expr Exprs Tree Trees tree_of (fold-Exprs Tree Trees tree_step (λ ts. trees_of ts.items.items)) x)

pub tree_of-Priced : (place : _) (e : Expr) (price : _) → tree_of (Priced' place e price) ≡ priced (tree_of e) price
tree_of-Priced place e price = fold_out-Expr Tree Trees tree_step (λ ts. trees_of ts.items.items) (Priced' place e price) ∙ ap layer (outs-Priced' place e price)
