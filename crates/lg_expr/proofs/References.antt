-- What holds of each reference to a macro in the tree of a derivation.
use Rattle.std.proofs.Common.{ℕ, suc, ◌+◌, ◌≤◌, List, [], ◌∷◌, arith}
use Rattle.std.specs.List.{AllByRecursion}
use Rattle.lg_gram.specs.RawTrees.{RawTree, raw_trees_of, macros_of, macros_in}
use Rattle.lg_expr.specs.declared.part.Operator.{Operator}
use Rattle.lg_expr.specs.declared.part.Operator.TheVariants.{And, Or}
use Rattle.lg_expr.specs.Grammar.{Alternatives, alternative, or_else, Factors, factor, and_then, Primary, connector, macro, brackets, bracketed, braced, costly, costing, joined, members, factors, meaning, tree, level, factors_level, primary_level, Rules, Admits, Keeps, FactorsKeep, PrimaryKeeps}
use Rattle.lg_expr.proofs.AllOf.{all_append, all_left, all_right}

module _ (P : List ℕ × ℕ → Type 0) where
  abbrev pub EachNamed : RawTree → Type 0
  EachNamed t = AllByRecursion P (macros_of t)

  apart : (ts : List RawTree) → AllByRecursion P (macros_in (raw_trees_of ts)) → AllByRecursion EachNamed ts
  apart [] h = tt
  apart (t ∷ ts) h = (all_left P (macros_of t) (macros_in (raw_trees_of ts)) h, apart ts (all_right P (macros_of t) (macros_in (raw_trees_of ts)) h))

  pub joined_apart : (op : Operator) (ts : List RawTree) → EachNamed (joined op ts) → AllByRecursion EachNamed ts
  joined_apart op [] h = tt
  joined_apart op (t ∷ []) h = (h, tt)
  joined_apart And (t ∷ u ∷ ts) h = apart (t ∷ u ∷ ts) h
  joined_apart Or (t ∷ u ∷ ts) h = apart (t ∷ u ∷ ts) h

  together : (ts : List RawTree) → AllByRecursion EachNamed ts → AllByRecursion P (macros_in (raw_trees_of ts))
  together [] h = tt
  together (t ∷ ts) h = all_append P (macros_of t) (macros_in (raw_trees_of ts)) h.0 (together ts h.1)

  joined_together : (op : Operator) (ts : List RawTree) → AllByRecursion EachNamed ts → EachNamed (joined op ts)
  joined_together And [] h = tt
  joined_together Or [] h = tt
  joined_together op (t ∷ []) h = h.0
  joined_together And (t ∷ u ∷ ts) h = together (t ∷ u ∷ ts) h
  joined_together Or (t ∷ u ∷ ts) h = together (t ∷ u ∷ ts) h

  -- where it holds of each macro that the rules admit within so many brackets
  module _ (r : Rules) (bound : ℕ) (holds : (m : List ℕ) (depth : ℕ) → depth ≤ bound → Admits (r.known m) depth r.limit → P (m, depth)) where
    mutual
      members_named : (a : Alternatives) (depth : ℕ) → depth + level a ≤ bound → Keeps r depth a → AllByRecursion EachNamed (members depth a)
      members_named (alternative f) depth low k = (joined_together And (factors depth f) (factors_named f depth low k), tt)
      members_named (or_else a f) depth low k =
          all_append EachNamed (members depth a) (joined And (factors depth f) ∷ []) (members_named a depth (omega arith) k.0)
          (joined_together And (factors depth f) (factors_named f depth (omega arith) k.1), tt)

      factors_named : (f : Factors) (depth : ℕ) → depth + factors_level f ≤ bound → FactorsKeep r depth f → AllByRecursion EachNamed (factors depth f)
      factors_named (factor p) depth low k = (primary_named p depth low k, tt)
      factors_named (and_then f p) depth low k = all_append EachNamed (factors depth f) (meaning depth p ∷ []) (factors_named f depth (omega arith) k.0) (primary_named p depth (omega arith) k.1, tt)

      primary_named : (p : Primary) (depth : ℕ) → depth + primary_level p ≤ bound → PrimaryKeeps r depth p → EachNamed (meaning depth p)
      primary_named (connector c) depth low k = tt
      primary_named (macro m) depth low k = (holds m depth (omega arith) k, tt)
      primary_named brackets depth low k = tt
      primary_named (bracketed a) depth low k = joined_together Or (members (suc depth) a) (members_named a (suc depth) (omega arith) k.1)
      primary_named (braced a) depth low k = all_append P (macros_of (joined Or (members (suc depth) a))) [] (joined_together Or (members (suc depth) a) (members_named a (suc depth) (omega arith) k.1)) tt
      primary_named (costly a) depth low k = joined_together Or (members (suc depth) a) (members_named a (suc depth) (omega arith) k.1)
      primary_named (costing a cost) depth low k = joined_together Or (members (suc depth) a) (members_named a (suc depth) (omega arith) k.1)

    pub tree_named : (a : Alternatives) → level a ≤ bound → Keeps r 0 a → EachNamed (tree a)
    tree_named a low k = joined_together Or (members 0 a) (members_named a 0 (omega arith) k)
