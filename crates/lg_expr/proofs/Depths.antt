-- The tree of a derivation keeps to its level.
use Rattle.std.proofs.Common.{ℕ, suc, ◌+◌, ◌*◌, ◌≤◌, List, [], ◌∷◌, map, Option, Some, None, IfSome, arith}
use Rattle.std.specs.List.{AllByRecursion}
use Rattle.lg_gram.specs.Filled.{Formulas, put_in, filled, filled_in, level_within, level_reached, highest}
use Rattle.lg_gram.specs.Measures.{depth_of, depth_in}
use Rattle.lg_gram.specs.RawTrees.{RawTree, raw_trees_of, macros_of}
use Rattle.lg_gram.specs.Trees.{Tree}
use Rattle.lg_expr.specs.declared.part.Operator.{Operator}
use Rattle.lg_expr.specs.declared.part.Operator.TheVariants.{And, Or}
use Rattle.lg_expr.specs.Grammar.{Alternatives, alternative, or_else, Factors, factor, and_then, Primary, connector, macro, brackets, bracketed, braced, costly, costing, joined, optional, members, factors, meaning, tree, level, factors_level, primary_level, Rules, Admits, Keeps, FactorsKeep, PrimaryKeeps}
use Rattle.lg_expr.proofs.AllOf.{all_append, all_left, all_right}
use Rattle.lg_expr.proofs.References.{EachNamed, joined_apart, tree_named}
use Rattle.lg_expr.specs.Fits.{known_as, rules_of, Fits, AllFit}

-- ---- levels within the limit

module _ (r : Rules) where
  mutual
    level_kept : (a : Alternatives) (depth : ℕ) → depth ≤ r.limit → Keeps r depth a → depth + level a ≤ r.limit
    level_kept (alternative f) depth low k = factors_level_kept f depth low k
    level_kept (or_else a f) depth low k = let left = level_kept a depth low k.0 in let right = factors_level_kept f depth low k.1 in omega arith

    factors_level_kept : (f : Factors) (depth : ℕ) → depth ≤ r.limit → FactorsKeep r depth f → depth + factors_level f ≤ r.limit
    factors_level_kept (factor p) depth low k = primary_level_kept p depth low k
    factors_level_kept (and_then f p) depth low k = let left = factors_level_kept f depth low k.0 in let right = primary_level_kept p depth low k.1 in omega arith

    primary_level_kept : (p : Primary) (depth : ℕ) → depth ≤ r.limit → PrimaryKeeps r depth p → depth + primary_level p ≤ r.limit
    primary_level_kept (connector c) depth low k = omega arith
    primary_level_kept (macro m) depth low k = omega arith
    primary_level_kept brackets depth low k = omega arith
    primary_level_kept (bracketed a) depth low k = let h = level_kept a (suc depth) k.0 k.1 in omega arith
    primary_level_kept (braced a) depth low k = let h = level_kept a (suc depth) k.0 k.1 in omega arith
    primary_level_kept (costly a) depth low k = let h = level_kept a (suc depth) k.0 k.1 in omega arith
    primary_level_kept (costing a cost) depth low k = let h = level_kept a (suc depth) k.0 k.1 in omega arith

  pub tree_level_kept : (a : Alternatives) → Keeps r 0 a → level a ≤ r.limit
  tree_level_kept a k = let h = level_kept a 0 (omega arith) k in omega arith

module _ (formulas : Formulas) where
  -- ---- depths

  -- no leaf of the tree, macros put in, lies deeper, where so many steps stand above it
  abbrev pub Shallow : ℕ → ℕ → RawTree → Type 0
  Shallow above most t = depth_of (filled formulas t) + above ≤ most

  deepest : (above most : ℕ) (ts : List RawTree) → above ≤ most + 1 → AllByRecursion (Shallow above most) ts → depth_in (filled_in formulas (raw_trees_of ts)) + above ≤ most + 1
  deepest above most [] low h = omega arith
  deepest above most (t ∷ ts) low h = let rest = deepest above most ts low h.1 in let here = h.0 in omega arith

  -- a list of members is one step more
  joined_shallow : (op : Operator) (above most : ℕ) (ts : List RawTree) → above ≤ most + 1 → AllByRecursion (Shallow above most) ts → Shallow above (most + 1) (joined op ts)
  joined_shallow And above most [] low h = omega arith
  joined_shallow Or above most [] low h = omega arith
  joined_shallow op above most (t ∷ []) low h = let here = h.0 in omega arith
  joined_shallow And above most (t ∷ u ∷ ts) low h = deepest above most (t ∷ u ∷ ts) low h
  joined_shallow Or above most (t ∷ u ∷ ts) low h = deepest above most (t ∷ u ∷ ts) low h

  module _ (bound : ℕ) where
    -- no leaf of what is put in for the reference lies deeper
    abbrev pub PutShallow : List ℕ × ℕ → Type 0
    PutShallow m = depth_of (put_in (formulas m.0)) + 3 * m.1 ≤ 3 * bound

    in_braces : (t : RawTree) → EachNamed PutShallow (optional t) → EachNamed PutShallow t
    in_braces t h = all_left PutShallow (macros_of t) [] h

    -- a conjunction, where its members are so shallow
    conjunction : (depth : ℕ) (ts : List RawTree) → depth ≤ bound → (AllByRecursion (EachNamed PutShallow) ts → AllByRecursion (Shallow (3 * depth) (3 * bound)) ts)
        → EachNamed PutShallow (joined And ts) → Shallow (3 * depth) (3 * bound + 1) (joined And ts)
    conjunction depth ts low each h = joined_shallow And (3 * depth) (3 * bound) ts (omega arith) (each (joined_apart PutShallow And ts h))

    -- a disjunction
    disjunction : (depth : ℕ) (ts : List RawTree) → depth ≤ bound → (AllByRecursion (EachNamed PutShallow) ts → AllByRecursion (Shallow (3 * depth) (3 * bound + 1)) ts)
        → EachNamed PutShallow (joined Or ts) → Shallow (3 * depth) (3 * bound + 1 + 1) (joined Or ts)
    disjunction depth ts low each h = joined_shallow Or (3 * depth) (3 * bound + 1) ts (omega arith) (each (joined_apart PutShallow Or ts h))

    mutual
      members_shallow : (a : Alternatives) (depth : ℕ) → depth + level a ≤ bound → AllByRecursion (EachNamed PutShallow) (members depth a) → AllByRecursion (Shallow (3 * depth) (3 * bound + 1)) (members depth a)
      members_shallow (alternative f) depth low h = (conjunction depth (factors depth f) (omega arith) (factors_shallow f depth low) h.0, tt)
      members_shallow (or_else a f) depth low h =
          all_append (Shallow (3 * depth) (3 * bound + 1)) (members depth a) (joined And (factors depth f) ∷ [])
          (members_shallow a depth (omega arith) (all_left (EachNamed PutShallow) (members depth a) (joined And (factors depth f) ∷ []) h))
          (conjunction depth (factors depth f) (omega arith) (factors_shallow f depth (omega arith)) (all_right (EachNamed PutShallow) (members depth a) (joined And (factors depth f) ∷ []) h).0, tt)

      factors_shallow : (f : Factors) (depth : ℕ) → depth + factors_level f ≤ bound → AllByRecursion (EachNamed PutShallow) (factors depth f) → AllByRecursion (Shallow (3 * depth) (3 * bound)) (factors depth f)
      factors_shallow (factor p) depth low h = (primary_shallow p depth low h.0, tt)
      factors_shallow (and_then f p) depth low h =
          all_append (Shallow (3 * depth) (3 * bound)) (factors depth f) (meaning depth p ∷ [])
          (factors_shallow f depth (omega arith) (all_left (EachNamed PutShallow) (factors depth f) (meaning depth p ∷ []) h))
          (primary_shallow p depth (omega arith) (all_right (EachNamed PutShallow) (factors depth f) (meaning depth p ∷ []) h).0, tt)

      primary_shallow : (p : Primary) (depth : ℕ) → depth + primary_level p ≤ bound → EachNamed PutShallow (meaning depth p) → Shallow (3 * depth) (3 * bound) (meaning depth p)
      primary_shallow (connector c) depth low h = omega arith
      primary_shallow (macro m) depth low h = h.0
      primary_shallow brackets depth low h = omega arith
      primary_shallow (bracketed a) depth low h = let inside = disjunction (suc depth) (members (suc depth) a) (omega arith) (members_shallow a (suc depth) (omega arith)) h in omega arith
      primary_shallow (braced a) depth low h = let inside = disjunction (suc depth) (members (suc depth) a) (omega arith) (members_shallow a (suc depth) (omega arith)) (in_braces (joined Or (members (suc depth) a)) h) in omega arith
      primary_shallow (costly a) depth low h = let inside = disjunction (suc depth) (members (suc depth) a) (omega arith) (members_shallow a (suc depth) (omega arith)) h in omega arith
      primary_shallow (costing a cost) depth low h = let inside = disjunction (suc depth) (members (suc depth) a) (omega arith) (members_shallow a (suc depth) (omega arith)) h in omega arith

    pub tree_shallow : (a : Alternatives) → level a ≤ bound → EachNamed PutShallow (tree a) → depth_of (filled formulas (tree a)) ≤ 3 * bound + 2
    tree_shallow a low h =
        let all = disjunction 0 (members 0 a) (omega arith) (members_shallow a 0 (omega arith)) h in
        omega arith

  -- ---- levels that the references reach

  put_shallow : (found : Option (Tree × ℕ)) (depth bound : ℕ) → depth + 1 + level_within found ≤ bound → IfSome found (λ m. Fits m.1 m.0) → depth_of (put_in found) + 3 * depth ≤ 3 * bound
  put_shallow None depth bound low h = omega arith
  put_shallow (Some m) depth bound low h = let deep = h.level_fits.depth in omega arith

  -- where no reference reaches higher
  pub reached_shallow : AllFit formulas → (bound : ℕ) (ms : List (List ℕ × ℕ)) → highest (map (level_reached formulas) ms) ≤ bound → AllByRecursion (PutShallow bound) ms
  reached_shallow all_fit bound [] h = tt
  reached_shallow all_fit bound (m ∷ ms) h = (put_shallow (formulas m.0) m.1 bound (omega arith) (all_fit m.0), reached_shallow all_fit bound ms (omega arith))

  highest_within : (bound : ℕ) (ms : List (List ℕ × ℕ)) → AllByRecursion (λ m. level_reached formulas m ≤ bound) ms → highest (map (level_reached formulas) ms) ≤ bound
  highest_within bound [] h = omega arith
  highest_within bound (m ∷ ms) h = let here = h.0 in let rest = highest_within bound ms h.1 in omega arith

  admitted : (found : Option (Tree × ℕ)) (depth limit : ℕ) → Admits (known_as found) depth limit → depth + 1 + level_within found ≤ limit
  admitted None depth limit h = absurd h
  admitted (Some m) depth limit h = omega arith

  pub tree_within : (limit : ℕ) (a : Alternatives) → Keeps (rules_of formulas limit) 0 a → highest (map (level_reached formulas) (macros_of (tree a))) ≤ limit
  tree_within limit a k =
      let rules = rules_of formulas limit in
      highest_within limit (macros_of (tree a)) (tree_named (λ m. level_reached formulas m ≤ limit) rules limit (λ m depth low h. admitted (formulas m) depth limit h) a (tree_level_kept rules a k) k)
