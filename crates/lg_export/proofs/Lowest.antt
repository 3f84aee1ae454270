-- Each derivation of an expression has at least the level of its spelling.
use Rattle.std.proofs.Common.{◌≡◌, ℕ, suc, ◌≤◌, max, List, [], ◌∷◌, ◌++◌, arith}
use Rattle.std.specs.List.{AllByRecursion}
use Rattle.std.specs.Prelude.{ℤ}
use Rattle.lg_gram.specs.Connectors.{Connector}
use Rattle.lg_gram.specs.RawTrees.{RawTree, raw_empty, raw_leaf, named, raw_all, raw_one, raw_priced, no_raw_trees, raw_tree, raw_trees_of}
use Rattle.lg_gram.specs.Trees.{Tree, Trees, empty, leaf, all_of, one_of, priced, no_trees, tree}
use Rattle.lg_expr.specs.declared.part.Operator.TheVariants.{And, Or}
use Rattle.lg_expr.specs.Grammar.{Alternatives, alternative, or_else, Factors, factor, and_then, Primary, connector, macro, brackets, bracketed, braced, costly, costing, joined, optional, members, factors, meaning, level, factors_level, primary_level, BRACKET_COST}
use Rattle.lg_export.specs.Spelling.{Spot, top, in_or, in_and, level_at, members_level}
use Rattle.lg_export.specs.Levels.{raw_of, raws_of}
use Rattle.lg_export.proofs.Spelled.{top_or_level, either_or_level}

-- ---- the levels at the three spots

-- brackets of its own are no more than one level, and no less than none
record Near (t : Tree) : Type 0 where
  below : level_at top t ≤ level_at in_or t
  above : level_at in_or t ≤ suc (level_at top t)

near : (t : Tree) → Near t
near empty = record { below = omega arith; above = omega arith }
near (leaf c) = record { below = omega arith; above = omega arith }
near (all_of ts) = record { below = omega arith; above = omega arith }
near (priced t cost) = record { below = omega arith; above = omega arith }
near (one_of no_trees) = record { below = omega arith; above = omega arith }
near (one_of (tree empty no_trees)) = record { below = omega arith; above = omega arith }
near (one_of (tree empty (tree t no_trees))) =
    let inner = near t in
    let low = inner.below in
    let high = inner.above in
    record { below = omega arith; above = omega arith }
near (one_of (tree empty (tree t (tree u us)))) = record { below = omega arith; above = omega arith }
near (one_of (tree (leaf c) us)) = record { below = omega arith; above = omega arith }
near (one_of (tree (all_of ts) us)) = record { below = omega arith; above = omega arith }
near (one_of (tree (one_of ts) us)) = record { below = omega arith; above = omega arith }
near (one_of (tree (priced t cost) us)) = record { below = omega arith; above = omega arith }

pub or_below_and : (t : Tree) → level_at in_or t ≤ level_at in_and t
or_below_and empty = omega arith
or_below_and (leaf c) = omega arith
or_below_and (all_of ts) = omega arith
or_below_and (one_of ts) = omega (arith, either_or_level ts)
or_below_and (priced t cost) = omega arith

pub and_below_top : (t : Tree) → level_at in_and t ≤ suc (level_at top t)
and_below_top empty = omega arith
and_below_top (leaf c) = omega arith
and_below_top (all_of ts) = omega arith
and_below_top (one_of ts) = let high = (near (one_of ts)).above in omega (arith, either_or_level ts)
and_below_top (priced t cost) = omega arith

pub top_below_or : (t : Tree) → level_at top t ≤ level_at in_or t
top_below_or t = (near t).below

-- ---- expressions that are read

-- whatever expression it is, at this spot its level is at most n
abbrev Within : Spot → ℕ → RawTree → Type 0
Within at n r = (t : Tree) → r ≡ raw_of t → level_at at t ≤ n

abbrev AllWithin : Spot → ℕ → List RawTree → Type 0
AllWithin at n rs = AllByRecursion (Within at n) rs

wider : (at : Spot) (m n : ℕ) (rs : List RawTree) → m ≤ n → AllWithin at m rs → AllWithin at n rs
wider at m n [] h all = tt
wider at m n (r ∷ rs) h all = (λ t is. let low = all.0 t is in omega arith, wider at m n rs h all.1)

one_more : (at : Spot) (n : ℕ) (rs : List RawTree) (r : RawTree) → AllWithin at n rs → Within at n r → AllWithin at n (rs ++ r ∷ [])
one_more at n [] r all h = (h, tt)
one_more at n (s ∷ rs) r all h = (all.0, one_more at n rs r all.1 h)

members_within : (at : Spot) (n : ℕ) (rs : List RawTree) (ts : Trees) → AllWithin at n rs → raw_trees_of rs ≡ raws_of ts → members_level at ts ≤ n
members_within at n rs no_trees all is = omega arith
members_within at n [] (tree t ts) all is = absurd cc
members_within at n (r ∷ rs) (tree t ts) all is =
    let first : r ≡ raw_of t = cc in
    let rest : raw_trees_of rs ≡ raws_of ts = cc in
    let low = all.0 t first in
    let others = members_within at n rs ts all.1 rest in
    omega arith

any_node : (n : ℕ) (rs : List RawTree) → AllWithin in_or n rs → Within top n (raw_one (raw_trees_of rs))
any_node n rs all empty is = absurd cc
any_node n rs all (leaf c) is = absurd cc
any_node n rs all (all_of ts) is = absurd cc
any_node n rs all (one_of ts) is = let low = members_within in_or n rs ts all (inner is) in omega (arith, top_or_level ts)
  where
    inner : raw_one (raw_trees_of rs) ≡ raw_one (raws_of ts) → raw_trees_of rs ≡ raws_of ts
    inner e = cc
any_node n rs all (priced t cost) is = absurd cc

all_node : (n : ℕ) (rs : List RawTree) → AllWithin in_and n rs → Within in_or n (raw_all (raw_trees_of rs))
all_node n rs all empty is = absurd cc
all_node n rs all (leaf c) is = absurd cc
all_node n rs all (all_of ts) is = members_within in_and n rs ts all (inner is)
  where
    inner : raw_all (raw_trees_of rs) ≡ raw_all (raws_of ts) → raw_trees_of rs ≡ raws_of ts
    inner e = cc
all_node n rs all (one_of ts) is = absurd cc
all_node n rs all (priced t cost) is = absurd cc

any_joined : (n : ℕ) (rs : List RawTree) → AllWithin in_or n rs → Within top n (joined Or rs)
any_joined n [] all = any_node n [] all
any_joined n (r ∷ []) all = λ t is. let low = all.0 t is in let below = (near t).below in omega arith
any_joined n (r ∷ s ∷ rs) all = any_node n (r ∷ s ∷ rs) all

all_joined : (n : ℕ) (rs : List RawTree) → AllWithin in_and n rs → Within in_or n (joined And rs)
all_joined n [] all = all_node n [] all
all_joined n (r ∷ []) all = λ t is. let low = all.0 t is in omega (arith, or_below_and t)
all_joined n (r ∷ s ∷ rs) all = all_node n (r ∷ s ∷ rs) all

-- ---- primaries

connector_within : (c : Connector) → Within in_and 0 (raw_leaf c)
connector_within c empty is = absurd cc
connector_within c (leaf d) is = omega arith
connector_within c (all_of ts) is = absurd cc
connector_within c (one_of ts) is = absurd cc
connector_within c (priced t cost) is = absurd cc

macro_within : (m : List ℕ) (depth : ℕ) → Within in_and 0 (named m depth)
macro_within m depth empty is = absurd cc
macro_within m depth (leaf d) is = absurd cc
macro_within m depth (all_of ts) is = absurd cc
macro_within m depth (one_of ts) is = absurd cc
macro_within m depth (priced t cost) is = absurd cc

empty_within : Within in_and 1 raw_empty
empty_within empty is = omega arith
empty_within (leaf d) is = absurd cc
empty_within (all_of ts) is = absurd cc
empty_within (one_of ts) is = absurd cc
empty_within (priced t cost) is = absurd cc

braced_within : (n : ℕ) (r : RawTree) → Within top n r → Within in_and (suc n) (optional r)
braced_within n r h empty is = absurd cc
braced_within n r h (leaf d) is = absurd cc
braced_within n r h (all_of ts) is = absurd cc
braced_within n r h (one_of ts) is = beside ts (inner is)
  where
    inner : optional r ≡ raw_one (raws_of ts) → raw_tree raw_empty (raw_tree r no_raw_trees) ≡ raws_of ts
    inner e = cc

    beside : (ts : Trees) → raw_tree raw_empty (raw_tree r no_raw_trees) ≡ raws_of ts → level_at in_and (one_of ts) ≤ suc n
    beside no_trees e = absurd cc
    beside (tree empty no_trees) e = absurd cc
    beside (tree empty (tree t no_trees)) e = let same : r ≡ raw_of t = cc in let low = h t same in omega arith
    beside (tree empty (tree t (tree u us))) e = absurd cc
    beside (tree (leaf c) us) e = absurd cc
    beside (tree (all_of us) vs) e = absurd cc
    beside (tree (one_of us) vs) e = absurd cc
    beside (tree (priced t cost) us) e = absurd cc
braced_within n r h (priced t cost) is = absurd cc

priced_within : (n : ℕ) (r : RawTree) (price : ℤ) → Within top n r → Within in_and (suc n) (raw_priced r price)
priced_within n r price h empty is = absurd cc
priced_within n r price h (leaf d) is = absurd cc
priced_within n r price h (all_of ts) is = absurd cc
priced_within n r price h (one_of ts) is = absurd cc
priced_within n r price h (priced t cost) is = let same : r ≡ raw_of t = cc in let low = h t same in omega arith

-- ---- derivations

mutual
  members_at_least : (a : Alternatives) (depth : ℕ) → AllWithin in_or (level a) (members depth a)
  members_at_least (alternative f) depth = (all_joined (factors_level f) (factors depth f) (factors_at_least f depth), tt)
  members_at_least (or_else a f) depth =
      let n = max (level a) (factors_level f) in
      one_more in_or n (members depth a) (joined And (factors depth f)) (wider in_or (level a) n (members depth a) (omega arith) (members_at_least a depth))
      (all_joined n (factors depth f) (wider in_and (factors_level f) n (factors depth f) (omega arith) (factors_at_least f depth)))

  factors_at_least : (f : Factors) (depth : ℕ) → AllWithin in_and (factors_level f) (factors depth f)
  factors_at_least (factor p) depth = (primary_at_least p depth, tt)
  factors_at_least (and_then f p) depth =
      let n = max (factors_level f) (primary_level p) in
      one_more in_and n (factors depth f) (meaning depth p) (wider in_and (factors_level f) n (factors depth f) (omega arith) (factors_at_least f depth))
      (λ t is. let low = primary_at_least p depth t is in omega arith)

  primary_at_least : (p : Primary) (depth : ℕ) → Within in_and (primary_level p) (meaning depth p)
  primary_at_least (connector c) depth = connector_within c
  primary_at_least (macro m) depth = macro_within m depth
  primary_at_least brackets depth = empty_within
  primary_at_least (bracketed a) depth = λ t is.
      let low = any_joined (level a) (members (suc depth) a) (members_at_least a (suc depth)) t is in omega (arith, and_below_top t)
  primary_at_least (braced a) depth = braced_within (level a) (joined Or (members (suc depth) a)) (any_joined (level a) (members (suc depth) a) (members_at_least a (suc depth)))
  primary_at_least (costly a) depth =
      priced_within (level a) (joined Or (members (suc depth) a)) BRACKET_COST (any_joined (level a) (members (suc depth) a) (members_at_least a (suc depth)))
  primary_at_least (costing a cost) depth =
      priced_within (level a) (joined Or (members (suc depth) a)) cost (any_joined (level a) (members (suc depth) a) (members_at_least a (suc depth)))

pub alternatives_at_least : (a : Alternatives) (depth : ℕ) → Within top (level a) (joined Or (members depth a))
alternatives_at_least a depth = any_joined (level a) (members depth a) (members_at_least a depth)
