-- Expressions of the dictionary format: what is written, what it means, and which are within the limits.
use Rattle.std.specs.Prelude.{ℕ, suc, ◌+◌, ◌<◌, ◌≤◌, max, List, [], ◌∷◌, ◌++◌, ℤ, pos}
use Rattle.lg_gram.specs.Connectors.{Connector}
use Rattle.lg_gram.specs.RawTrees.{RawTree, RawTrees, raw_empty, raw_leaf, named, raw_all, raw_one, raw_priced, no_raw_trees, raw_tree, raw_trees_of}
use Rattle.lg_expr.specs.declared.part.Operator.{Operator}
use Rattle.lg_expr.specs.declared.part.Operator.TheVariants.{And, Or}
use Rattle.lg_expr.specs.declared.part.Bracket.TheVariants.{Round, Curly, Square}
use Rattle.lg_expr.specs.declared.macros.Known.{Known}
use Rattle.lg_expr.specs.declared.macros.Known.TheVariants.{Unknown, Free, Leveled}
use Rattle.lg_expr.specs.Parts.{Part, connects, names, operates, opens, closes, number}

-- The grammar of the dictionary format, as its derivations:
--   expr := conj (("or" | "|") conj)*
--   conj := prim (("&" | "and") prim)*
--   prim := connector | macro | "(" ")" | "(" expr ")" | "{" expr "}" | "[" expr "]" number?
mutual
  pub data Alternatives : Type 0 where
    alternative : Factors → Alternatives
    or_else : Alternatives → Factors → Alternatives

  pub data Factors : Type 0 where
    factor : Primary → Factors
    and_then : Factors → Primary → Factors

  pub data Primary : Type 0 where
    connector : Connector → Primary
    macro : List ℕ → Primary
    brackets : Primary
    bracketed : Alternatives → Primary
    braced : Alternatives → Primary
    costly : Alternatives → Primary
    costing : Alternatives → ℤ → Primary

-- the parts that a derivation spells
abbrev mutual
  pub spelled : Alternatives → List Part
  spelled (alternative f) = factors_spelled f
  spelled (or_else a f) = spelled a ++ operates Or ∷ factors_spelled f

  pub factors_spelled : Factors → List Part
  factors_spelled (factor p) = primary_spelled p
  factors_spelled (and_then f p) = factors_spelled f ++ operates And ∷ primary_spelled p

  pub primary_spelled : Primary → List Part
  primary_spelled (connector c) = connects c ∷ []
  primary_spelled (macro m) = names m ∷ []
  primary_spelled brackets = opens Round ∷ closes Round ∷ []
  primary_spelled (bracketed a) = opens Round ∷ (spelled a ++ closes Round ∷ [])
  primary_spelled (braced a) = opens Curly ∷ (spelled a ++ closes Curly ∷ [])
  primary_spelled (costly a) = opens Square ∷ (spelled a ++ closes Square ∷ [])
  primary_spelled (costing a cost) = opens Square ∷ (spelled a ++ closes Square ∷ number cost ∷ [])

-- a list of members
abbrev pub node : Operator → RawTrees → RawTree
node And ts = raw_all ts
node Or ts = raw_one ts

-- a list with one member is that member
abbrev pub joined : Operator → List RawTree → RawTree
joined op [] = node op no_raw_trees
joined op (t ∷ []) = t
joined op (t ∷ u ∷ ts) = node op (raw_trees_of (t ∷ u ∷ ts))

-- {e} is `Or` of `Empty` and e
abbrev pub optional : RawTree → RawTree
optional t = raw_one (raw_tree raw_empty (raw_tree t no_raw_trees))

-- what [e] adds, in thousandths
abbrev pub BRACKET_COST : ℤ
BRACKET_COST = pos 1000

-- the members that a derivation lists, where so many brackets are open round it
abbrev mutual
  pub members : ℕ → Alternatives → List RawTree
  members depth (alternative f) = joined And (factors depth f) ∷ []
  members depth (or_else a f) = members depth a ++ joined And (factors depth f) ∷ []

  pub factors : ℕ → Factors → List RawTree
  factors depth (factor p) = meaning depth p ∷ []
  factors depth (and_then f p) = factors depth f ++ meaning depth p ∷ []

  pub meaning : ℕ → Primary → RawTree
  meaning depth (connector c) = raw_leaf c
  meaning depth (macro m) = named m depth
  meaning depth brackets = raw_empty
  meaning depth (bracketed a) = joined Or (members (suc depth) a)
  meaning depth (braced a) = optional (joined Or (members (suc depth) a))
  meaning depth (costly a) = raw_priced (joined Or (members (suc depth) a)) BRACKET_COST
  meaning depth (costing a cost) = raw_priced (joined Or (members (suc depth) a)) cost

-- the tree that a derivation means, where no bracket is open round it
abbrev pub tree : Alternatives → RawTree
tree a = joined Or (members 0 a)

-- the greatest number of its brackets that are open at once; macros do not count
abbrev mutual
  pub level : Alternatives → ℕ
  level (alternative f) = factors_level f
  level (or_else a f) = max (level a) (factors_level f)

  pub factors_level : Factors → ℕ
  factors_level (factor p) = primary_level p
  factors_level (and_then f p) = max (factors_level f) (primary_level p)

  pub primary_level : Primary → ℕ
  primary_level (connector c) = 0
  primary_level (macro m) = 0
  primary_level brackets = 1
  primary_level (bracketed a) = suc (level a)
  primary_level (braced a) = suc (level a)
  primary_level (costly a) = suc (level a)
  primary_level (costing a cost) = suc (level a)

-- what is known of macros by their names, and how many brackets may be open
pub record Rules : Type 0 where
  pub known : List ℕ → Known
  pub limit : ℕ

-- a macro of a level counts as one bracket round its expression; a free one may stand anywhere
abbrev pub Admits : Known → ℕ → ℕ → Type 0
Admits Unknown depth limit = ⊥
Admits Free depth limit = Unit {0}
Admits (Leveled own) depth limit = own + depth + 1 ≤ limit

-- the derivation keeps the rules, where so many brackets are open round it
abbrev mutual
  pub Keeps : Rules → ℕ → Alternatives → Type 0
  Keeps r depth (alternative f) = FactorsKeep r depth f
  Keeps r depth (or_else a f) = Keeps r depth a × FactorsKeep r depth f

  pub FactorsKeep : Rules → ℕ → Factors → Type 0
  FactorsKeep r depth (factor p) = PrimaryKeeps r depth p
  FactorsKeep r depth (and_then f p) = FactorsKeep r depth f × PrimaryKeeps r depth p

  pub PrimaryKeeps : Rules → ℕ → Primary → Type 0
  PrimaryKeeps r depth (connector c) = Unit {0}
  PrimaryKeeps r depth (macro m) = Admits (r.known m) depth r.limit
  PrimaryKeeps r depth brackets = depth < r.limit
  PrimaryKeeps r depth (bracketed a) = (depth < r.limit) × Keeps r (suc depth) a
  PrimaryKeeps r depth (braced a) = (depth < r.limit) × Keeps r (suc depth) a
  PrimaryKeeps r depth (costly a) = (depth < r.limit) × Keeps r (suc depth) a
  PrimaryKeeps r depth (costing a cost) = (depth < r.limit) × Keeps r (suc depth) a
