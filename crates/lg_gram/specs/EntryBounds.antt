-- What every entry keeps to that is read from a text.
use Rattle.std.specs.Prelude.{◌≡◌, ℕ, ◌+◌, ◌*◌, ◌^◌, ◌<◌, ◌≤◌, length, All, None, true}
use Rattle.lg_gram.specs.EntryViews.{EntryView}
use Rattle.lg_gram.specs.Filled.{filled}
use Rattle.lg_gram.specs.Formulas.{prices_are_small}
use Rattle.lg_gram.specs.Limits.{LEVEL}
use Rattle.lg_gram.specs.Measures.{depth_of}
use Rattle.lg_gram.specs.RawTrees.{RawTree, RawTrees, raw_empty, raw_leaf, named, raw_all, raw_one, raw_priced, no_raw_trees, raw_tree, macros_of}
use Rattle.lg_gram.specs.Trees.{Tree}

-- the expression with `()` in place of each macro
abbrev pub bare : RawTree → Tree
bare t = filled (λ name. None) t

-- Each reference to a macro lies at most three steps below the root for each bracket open there, and two more. So many
-- steps stand above the tree.
abbrev mutual
  pub ReferencesLie : ℕ → RawTree → Type 0
  ReferencesLie above raw_empty = Unit {0}
  ReferencesLie above (raw_leaf c) = Unit {0}
  ReferencesLie above (named name depth) = above ≤ 3 * depth + 2
  ReferencesLie above (raw_all ts) = ReferencesLieIn (above + 1) ts
  ReferencesLie above (raw_one ts) = ReferencesLieIn (above + 1) ts
  ReferencesLie above (raw_priced t price) = ReferencesLie (above + 1) t

  pub ReferencesLieIn : ℕ → RawTrees → Type 0
  ReferencesLieIn above no_raw_trees = Unit {0}
  ReferencesLieIn above (raw_tree t ts) = ReferencesLie above t × ReferencesLieIn above ts

-- the entry keeps to its level, and its costs and the number of its references are within their bounds
pub record IsEntryInBounds (e : EntryView) : Type 0 where
  pub references : length (macros_of e.expr) < 2 ^ 32
  pub level : e.level ≤ LEVEL
  pub brackets : All (λ m. m.1 ≤ e.level) (macros_of e.expr)
  pub prices : prices_are_small (bare e.expr) ≡ true
  pub leaves : depth_of (bare e.expr) ≤ 3 * e.level + 2
  pub named : ReferencesLie 0 e.expr
