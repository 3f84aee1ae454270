-- The levels of all spellings of an expression.
use Rattle.std.specs.Prelude.{◌≡◌, ◌≤◌, ℕ, List, IfSome}
use Rattle.lg_gram.specs.Filled.{Formulas, filled, filled_level}
use Rattle.lg_gram.specs.RawTrees.{RawTree, RawTrees, raw_empty, raw_leaf, raw_all, raw_one, raw_priced, no_raw_trees, raw_tree}
use Rattle.lg_gram.specs.Trees.{Tree, Trees, empty, leaf, all_of, one_of, priced, no_trees, tree}
use Rattle.lg_expr.specs.Grammar as grammar
use Rattle.lg_expr.specs.Grammar.{Alternatives}
use Rattle.lg_export.specs.Spelling.{top, level_at}

-- an expression as it is written without macros
abbrev mutual
  pub raw_of : Tree → RawTree
  raw_of empty = raw_empty
  raw_of (leaf c) = raw_leaf c
  raw_of (all_of ts) = raw_all (raws_of ts)
  raw_of (one_of ts) = raw_one (raws_of ts)
  raw_of (priced t cost) = raw_priced (raw_of t) cost

  pub raws_of : Trees → RawTrees
  raws_of no_trees = no_raw_trees
  raws_of (tree t ts) = raw_tree (raw_of t) (raws_of ts)

-- no derivation that means an expression has a smaller level than the expression's spelling
abbrev pub NoSpellingIsLower : Type 0
NoSpellingIsLower = (t : Tree) (a : Alternatives) → grammar.tree a ≡ raw_of t → level_at top t ≤ grammar.level a

-- the level of each macro is at least that of its formula's spelling
abbrev pub MacrosReach : Formulas → Type 0
MacrosReach formulas = (name : List ℕ) → IfSome (formulas name) (λ m. level_at top m.0 ≤ m.1)

-- and so is the level of each entry that names such macros, whose expression is derived so
abbrev pub EntriesReach : Type 0
EntriesReach = (formulas : Formulas) (a : Alternatives) → MacrosReach formulas
    → level_at top (filled formulas (grammar.tree a)) ≤ filled_level formulas (grammar.level a) (grammar.tree a)
