-- Expressions with their macros put in.
use Rattle.std.specs.Prelude.{ℕ, ◌≡◌, ◌+◌, ◌<◌, min, max, length, List, [], ◌∷◌, map, Option, Some, None, Bool, is_none}
use Rattle.std.specs.List.{position_or_len}
use Rattle.std.specs.ControlFlow.{MatchControlFlow}
use Rattle.std.specs.declared.ops.ControlFlow.{ControlFlow}
use Rattle.lg_gram.specs.Limits.{REFERENCES_COUNTED}
use Rattle.lg_gram.specs.Trees.{Tree, Trees, empty, leaf, all_of, one_of, priced, no_trees, tree}
use Rattle.lg_gram.specs.RawTrees.{RawTree, RawTrees, raw_empty, raw_leaf, named, raw_all, raw_one, raw_priced, no_raw_trees, raw_tree, macros_of}

-- what each macro name stands for, and the greatest number of brackets open in it at once
abbrev pub Formulas : Type 0
Formulas = List ℕ → Option (Tree × ℕ)

-- what is put in for a macro: `()` for one that is not known, which no caller meets
abbrev pub put_in : Option (Tree × ℕ) → Tree
put_in None = empty
put_in (Some m) = m.0

-- the tree of an expression with its macros put in
abbrev mutual
  pub filled : Formulas → RawTree → Tree
  filled formulas raw_empty = empty
  filled formulas (raw_leaf c) = leaf c
  filled formulas (named name depth) = put_in (formulas name)
  filled formulas (raw_all ts) = all_of (filled_in formulas ts)
  filled formulas (raw_one ts) = one_of (filled_in formulas ts)
  filled formulas (raw_priced t price) = priced (filled formulas t) price

  pub filled_in : Formulas → RawTrees → Trees
  filled_in formulas no_raw_trees = no_trees
  filled_in formulas (raw_tree t ts) = tree (filled formulas t) (filled_in formulas ts)

-- the names of the macros, in reading order
abbrev pub macro_names : RawTree → List (List ℕ)
macro_names t = map (λ m. m.0) (macros_of t)

abbrev pub is_unknown : Formulas → List ℕ → Bool
is_unknown formulas name = is_none (formulas name)

-- Of references that are counted from `first` on: the number of the first that is not known, or else the next number.
abbrev pub FirstUnknown : Formulas → List (List ℕ × ℕ) → ℕ → ControlFlow ℕ ℕ → Type 0
FirstUnknown formulas references first answer =
    let known = position_or_len (λ m. is_unknown formulas m.0) references in
    MatchControlFlow answer
    (λ next. (known ≡ length references) × (next ≡ min (first + known) REFERENCES_COUNTED))
    (λ number. (known < length references) × (number ≡ min (first + known) REFERENCES_COUNTED))

abbrev pub level_within : Option (Tree × ℕ) → ℕ
level_within None = 0
level_within (Some m) = m.1

-- how many brackets a reference opens at most, where so many are open already: a macro counts as one bracket round its own
abbrev pub level_reached : Formulas → List ℕ × ℕ → ℕ
level_reached formulas m = m.1 + 1 + level_within (formulas m.0)

abbrev pub highest : List ℕ → ℕ
highest [] = 0
highest (n ∷ ns) = max n (highest ns)

-- the greatest number of brackets open at once: so many as are written, and what the references reach
abbrev pub filled_level : Formulas → ℕ → RawTree → ℕ
filled_level formulas written t = max written (highest (map (level_reached formulas) (macros_of t)))
