-- How a dictionary is spelled: an entry a line, as a dictionary text.
use Rattle.std.specs.Prelude.{ℕ, suc, ◌-◌, max, List, [], ◌++◌, replicate, codes}
use Rattle.std.specs.List.{flat_map}
use Rattle.std.specs.FinMap.{entries}
use Rattle.lg_base.specs.Costs.{cost_text}
use Rattle.lg_gram.specs.Connectors.{Connector}
use Rattle.lg_gram.specs.Trees.{Tree, Trees, empty, leaf, all_of, one_of, priced, no_trees, tree}
use Rattle.lg_dict.specs.Dictionary.{Dictionary}
use Rattle.lg_expr.specs.Words.{at_text, sign_text}

-- where an expression is spelled: by itself, as a member of an `or`, or as a member of an `&`
pub data Spot : Type 0 where
  top : Spot
  in_or : Spot
  in_and : Spot

-- a connector as a dictionary writes it: `@` if it is multi, its letters, and its sign
abbrev pub connector_spelled : Connector → List ℕ
connector_spelled c = at_text c.multi ++ (c.caps ++ (c.subs ++ sign_text c.right))

abbrev pub round : List ℕ → List ℕ
round text = codes "(" ++ (text ++ codes ")")

-- An expression at a spot. An `or` with `()` and one other member is that member in braces, but at the top; every other `or` has
-- round brackets, but at the top; an `&` has them as a member of an `&`.
abbrev mutual
  pub spelled : Spot → Tree → List ℕ
  spelled at empty = codes "()"
  spelled at (leaf c) = connector_spelled c
  spelled at (priced t cost) = codes "[" ++ (spelled top t ++ (codes "]" ++ cost_text cost))
  spelled top (one_of (tree empty (tree t no_trees))) = codes "() or " ++ spelled in_or t
  spelled in_or (one_of (tree empty (tree t no_trees))) = codes "{" ++ (spelled top t ++ codes "}")
  spelled in_and (one_of (tree empty (tree t no_trees))) = codes "{" ++ (spelled top t ++ codes "}")
  spelled top (one_of ts) = members_spelled in_or (codes " or ") ts
  spelled in_or (one_of ts) = round (members_spelled in_or (codes " or ") ts)
  spelled in_and (one_of ts) = round (members_spelled in_or (codes " or ") ts)
  spelled top (all_of ts) = members_spelled in_and (codes " & ") ts
  spelled in_or (all_of ts) = members_spelled in_and (codes " & ") ts
  spelled in_and (all_of ts) = round (members_spelled in_and (codes " & ") ts)

  -- the members at a spot, with this text between them
  pub members_spelled : Spot → List ℕ → Trees → List ℕ
  members_spelled at between no_trees = []
  members_spelled at between (tree t no_trees) = spelled at t
  members_spelled at between (tree t (tree u us)) = spelled at t ++ (between ++ members_spelled at between (tree u us))

-- the greatest number of brackets of that spelling that are open at once
abbrev mutual
  pub level_at : Spot → Tree → ℕ
  level_at at empty = 1
  level_at at (leaf c) = 0
  level_at at (priced t cost) = suc (level_at top t)
  level_at top (one_of (tree empty (tree t no_trees))) = max 1 (level_at in_or t)
  level_at in_or (one_of (tree empty (tree t no_trees))) = suc (level_at top t)
  level_at in_and (one_of (tree empty (tree t no_trees))) = suc (level_at top t)
  level_at top (one_of ts) = members_level in_or ts
  level_at in_or (one_of ts) = suc (members_level in_or ts)
  level_at in_and (one_of ts) = suc (members_level in_or ts)
  level_at top (all_of ts) = members_level in_and ts
  level_at in_or (all_of ts) = members_level in_and ts
  level_at in_and (all_of ts) = suc (members_level in_and ts)

  pub members_level : Spot → Trees → ℕ
  members_level at no_trees = 0
  members_level at (tree t ts) = max (level_at at t) (members_level at ts)

-- in so many pairs of round brackets
abbrev pub bracketed : ℕ → List ℕ → List ℕ
bracketed n text = replicate n 40 ++ (text ++ replicate n 41)

-- A macro's line: its name, and its expression in as many round brackets as bring it to the macro's level.
abbrev pub macro_line : List ℕ × (Tree × ℕ) → List ℕ
macro_line m = m.0 ++ (codes ": " ++ (bracketed (m.1.1 - level_at top m.1.0) (spelled top m.1.0) ++ codes ";\n"))

-- a word's line: the word in quotes, and its expression
abbrev pub word_line : List ℕ × Tree → List ℕ
word_line w = codes "\"" ++ (w.0 ++ (codes "\": " ++ (spelled top w.1 ++ codes ";\n")))

-- The text of a dictionary: a line for each macro, and then a line for each word, both by bytes.
abbrev pub dictionary_spelled : Dictionary → List ℕ
dictionary_spelled dict = flat_map macro_line (entries dict.macros) ++ flat_map word_line (entries dict.words)
