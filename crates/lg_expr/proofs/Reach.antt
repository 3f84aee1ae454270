-- The level of a derivation, with the brackets round it counted.
use Rattle.std.proofs.Common.{◌≡◌, ℕ, suc, ◌+◌, max, arith}
use Rattle.lg_expr.specs.Grammar.{Alternatives, alternative, or_else, Factors, factor, and_then, Primary, connector, macro, brackets, bracketed, braced, costly, costing, level, factors_level, primary_level}

pub max_assoc : (a b c : ℕ) → max (max a b) c ≡ max a (max b c)
max_assoc a b c = omega arith

pub max-zero : (a : ℕ) → max a 0 ≡ a
max-zero a = omega arith

pub zero-max : (a : ℕ) → max 0 a ≡ a
zero-max a = omega arith

-- how many brackets are open at once in it, those round it counted too, or 0 where it has no bracket
abbrev mutual
  pub reach : ℕ → Alternatives → ℕ
  reach depth (alternative f) = factors_reach depth f
  reach depth (or_else a f) = max (reach depth a) (factors_reach depth f)

  pub factors_reach : ℕ → Factors → ℕ
  factors_reach depth (factor p) = primary_reach depth p
  factors_reach depth (and_then f p) = max (factors_reach depth f) (primary_reach depth p)

  pub primary_reach : ℕ → Primary → ℕ
  primary_reach depth (connector c) = 0
  primary_reach depth (macro m) = 0
  primary_reach depth brackets = suc depth
  primary_reach depth (bracketed a) = max (suc depth) (reach (suc depth) a)
  primary_reach depth (braced a) = max (suc depth) (reach (suc depth) a)
  primary_reach depth (costly a) = max (suc depth) (reach (suc depth) a)
  primary_reach depth (costing a cost) = max (suc depth) (reach (suc depth) a)

both : (d x y m n : ℕ) → max d x ≡ d + m → max d y ≡ d + n → max d (max x y) ≡ d + max m n
both d x y m n h k = omega arith

deeper : (d x n : ℕ) → max (suc d) x ≡ suc d + n → max d (max (suc d) x) ≡ d + suc n
deeper d x n h = omega arith

mutual
  pub reach_level : (a : Alternatives) (depth : ℕ) → max depth (reach depth a) ≡ depth + level a
  reach_level (alternative f) depth = factors_reach_level f depth
  reach_level (or_else a f) depth = both depth (reach depth a) (factors_reach depth f) (level a) (factors_level f) (reach_level a depth) (factors_reach_level f depth)

  factors_reach_level : (f : Factors) (depth : ℕ) → max depth (factors_reach depth f) ≡ depth + factors_level f
  factors_reach_level (factor p) depth = primary_reach_level p depth
  factors_reach_level (and_then f p) depth = both depth (factors_reach depth f) (primary_reach depth p) (factors_level f) (primary_level p) (factors_reach_level f depth) (primary_reach_level p depth)

  primary_reach_level : (p : Primary) (depth : ℕ) → max depth (primary_reach depth p) ≡ depth + primary_level p
  primary_reach_level (connector c) depth = omega arith
  primary_reach_level (macro m) depth = omega arith
  primary_reach_level brackets depth = omega arith
  primary_reach_level (bracketed a) depth = deeper depth (reach (suc depth) a) (level a) (reach_level a (suc depth))
  primary_reach_level (braced a) depth = deeper depth (reach (suc depth) a) (level a) (reach_level a (suc depth))
  primary_reach_level (costly a) depth = deeper depth (reach (suc depth) a) (level a) (reach_level a (suc depth))
  primary_reach_level (costing a cost) depth = deeper depth (reach (suc depth) a) (level a) (reach_level a (suc depth))

-- with nothing round it
pub reach_all : (a : Alternatives) → reach 0 a ≡ level a
reach_all a = omega (arith, reach_level a 0)
