-- Each entry has at least the level of its formula's spelling, macros put in.
use Rattle.std.proofs.Common.{◌≡◌, ℕ, suc, ◌+◌, ◌≤◌, max, List, [], ◌∷◌, ◌++◌, map, Option, Some, None, IfSome, arith}
use Rattle.std.specs.List.{AllByRecursion}
use Rattle.std.specs.Prelude.{ℤ}
use Rattle.lg_gram.specs.Filled.{Formulas, filled, filled_in, filled_level, level_reached, highest, put_in, level_within}
use Rattle.lg_gram.specs.RawTrees.{RawTree, named, raw_priced, raw_trees_of, macros_of, macros_in}
use Rattle.lg_gram.specs.Trees.{Tree}
use Rattle.lg_expr.specs.declared.part.Operator.TheVariants.{And, Or}
use Rattle.lg_expr.specs.Grammar.{Alternatives, alternative, or_else, Factors, factor, and_then, Primary, connector, macro, brackets, bracketed, braced, costly, costing, joined, optional, members, factors, meaning, tree, level, factors_level, primary_level, BRACKET_COST}
use Rattle.lg_export.specs.Spelling.{Spot, top, in_or, in_and, level_at, members_level}
use Rattle.lg_export.specs.Levels.{MacrosReach}
use Rattle.lg_export.proofs.Spelled.{top_or_level}
use Rattle.lg_export.proofs.Lowest.{or_below_and, and_below_top, top_below_or}

highest_both : (f : List ℕ × ℕ → ℕ) (xs ys : List (List ℕ × ℕ)) → highest (map f (xs ++ ys)) ≡ max (highest (map f xs)) (highest (map f ys))
highest_both f [] ys = omega arith
highest_both f (x ∷ xs) ys = let more = highest_both f xs ys in omega arith

module _ (formulas : Formulas) (reach : MacrosReach formulas) where
  -- what its references reach
  abbrev reached : RawTree → ℕ
  reached r = highest (map (level_reached formulas) (macros_of r))

  abbrev reached_in : List RawTree → ℕ
  reached_in rs = highest (map (level_reached formulas) (macros_in (raw_trees_of rs)))

  -- with so many brackets round it, its level at a spot is at most what is written or what its references reach
  abbrev Within : Spot → ℕ → ℕ → RawTree → Type 0
  Within at depth n r = depth + level_at at (filled formulas r) ≤ max (depth + n) (reached r)

  abbrev AllWithin : Spot → ℕ → ℕ → List RawTree → Type 0
  AllWithin at depth n rs = AllByRecursion (Within at depth n) rs

  wider : (at : Spot) (depth m n : ℕ) (rs : List RawTree) → m ≤ n → AllWithin at depth m rs → AllWithin at depth n rs
  wider at depth m n [] h all = tt
  wider at depth m n (r ∷ rs) h all = let low = all.0 in (omega arith, wider at depth m n rs h all.1)

  one_more : (at : Spot) (depth n : ℕ) (rs : List RawTree) (r : RawTree) → AllWithin at depth n rs → Within at depth n r → AllWithin at depth n (rs ++ r ∷ [])
  one_more at depth n [] r all h = (h, tt)
  one_more at depth n (s ∷ rs) r all h = (all.0, one_more at depth n rs r all.1 h)

  members_within : (at : Spot) (depth n : ℕ) (rs : List RawTree) → AllWithin at depth n rs → depth + members_level at (filled_in formulas (raw_trees_of rs)) ≤ max (depth + n) (reached_in rs)
  members_within at depth n [] all = omega arith
  members_within at depth n (r ∷ rs) all =
      let low = all.0 in
      let others = members_within at depth n rs all.1 in
      let both = highest_both (level_reached formulas) (macros_of r) (macros_in (raw_trees_of rs)) in
      omega arith

  any_joined : (depth n : ℕ) (rs : List RawTree) → AllWithin in_or depth n rs → Within top depth n (joined Or rs)
  any_joined depth n [] all = omega arith
  any_joined depth n (r ∷ []) all = let low = all.0 in let below = top_below_or (filled formulas r) in omega arith
  any_joined depth n (r ∷ s ∷ rs) all =
      let low = members_within in_or depth n (r ∷ s ∷ rs) all in
      let same = top_or_level (filled_in formulas (raw_trees_of (r ∷ s ∷ rs))) in
      omega arith

  all_joined : (depth n : ℕ) (rs : List RawTree) → AllWithin in_and depth n rs → Within in_or depth n (joined And rs)
  all_joined depth n [] all = omega arith
  all_joined depth n (r ∷ []) all = let low = all.0 in let below = or_below_and (filled formulas r) in omega arith
  all_joined depth n (r ∷ s ∷ rs) all = let low = members_within in_and depth n (r ∷ s ∷ rs) all in omega arith

  macro_within : (m : List ℕ) (depth : ℕ) → Within in_and depth 0 (named m depth)
  macro_within m depth = by_formula (formulas m) (reach m)
    where
      by_formula : (o : Option (Tree × ℕ)) → IfSome o (λ f. level_at top f.0 ≤ f.1) → depth + level_at in_and (put_in o) ≤ max (depth + 0) (max (depth + 1 + level_within o) 0)
      by_formula None h = omega arith
      by_formula (Some f) h = let above = and_below_top f.0 in omega arith

  braced_within : (depth n : ℕ) (r : RawTree) → Within top (suc depth) n r → Within in_and depth (suc n) (optional r)
  braced_within depth n r h = let both = highest_both (level_reached formulas) (macros_of r) [] in omega arith

  priced_within : (depth n : ℕ) (r : RawTree) (price : ℤ) → Within top (suc depth) n r → Within in_and depth (suc n) (raw_priced r price)
  priced_within depth n r price h = omega arith

  mutual
    members_at : (a : Alternatives) (depth : ℕ) → AllWithin in_or depth (level a) (members depth a)
    members_at (alternative f) depth = (all_joined depth (factors_level f) (factors depth f) (factors_at f depth), tt)
    members_at (or_else a f) depth =
        let n = max (level a) (factors_level f) in
        one_more in_or depth n (members depth a) (joined And (factors depth f)) (wider in_or depth (level a) n (members depth a) (omega arith) (members_at a depth))
        (all_joined depth n (factors depth f) (wider in_and depth (factors_level f) n (factors depth f) (omega arith) (factors_at f depth)))

    factors_at : (f : Factors) (depth : ℕ) → AllWithin in_and depth (factors_level f) (factors depth f)
    factors_at (factor p) depth = (primary_at p depth, tt)
    factors_at (and_then f p) depth =
        let n = max (factors_level f) (primary_level p) in
        let last = primary_at p depth in
        one_more in_and depth n (factors depth f) (meaning depth p) (wider in_and depth (factors_level f) n (factors depth f) (omega arith) (factors_at f depth)) (omega arith)

    primary_at : (p : Primary) (depth : ℕ) → Within in_and depth (primary_level p) (meaning depth p)
    primary_at (connector c) depth = omega arith
    primary_at (macro m) depth = macro_within m depth
    primary_at brackets depth = omega arith
    primary_at (bracketed a) depth =
        let low = any_joined (suc depth) (level a) (members (suc depth) a) (members_at a (suc depth)) in
        let below = and_below_top (filled formulas (joined Or (members (suc depth) a))) in
        omega arith
    primary_at (braced a) depth = braced_within depth (level a) (joined Or (members (suc depth) a)) (any_joined (suc depth) (level a) (members (suc depth) a) (members_at a (suc depth)))
    primary_at (costly a) depth =
        priced_within depth (level a) (joined Or (members (suc depth) a)) BRACKET_COST (any_joined (suc depth) (level a) (members (suc depth) a) (members_at a (suc depth)))
    primary_at (costing a cost) depth =
        priced_within depth (level a) (joined Or (members (suc depth) a)) cost (any_joined (suc depth) (level a) (members (suc depth) a) (members_at a (suc depth)))

  pub level_reaches : (a : Alternatives) → level_at top (filled formulas (tree a)) ≤ filled_level formulas (level a) (tree a)
  level_reaches a = let low = any_joined 0 (level a) (members 0 a) (members_at a 0) in omega arith
