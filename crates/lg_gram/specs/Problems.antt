-- Problems: the disjuncts of each position of a sentence.
use Rattle.std.specs.Prelude.{◌≤◌, List, length, ℤ, pos, neg_ℤ, ◌≤ℤ◌}
use Rattle.std.specs.List.{All, sum_by}
use Rattle.std.specs.List.Sorted.{IsStrictlySortedBy}
use Rattle.lg_gram.specs.Limits.{SIDE, DISJUNCT_COST, POSITIONS, DISJUNCTS}
use Rattle.lg_gram.specs.Disjuncts.{disjunct_cmp}
use Rattle.lg_gram.specs.declared.disjunct.Disjunct.{Disjunct}

-- the cost of a disjunct is at most 10 ^ 13 thousandths from zero
abbrev pub IsDisjunctCost : ℤ → Type 0
IsDisjunctCost z = (neg_ℤ (pos DISJUNCT_COST) ≤ℤ z) × (z ≤ℤ pos DISJUNCT_COST)

pub record FitsProblem (d : Disjunct) : Type 0 where
  pub left : length d.left ≤ SIDE
  pub right : length d.right ≤ SIDE
  pub cost : IsDisjunctCost d.cost

-- the disjuncts of one position: in order, each once
pub record IsPosition (ds : List Disjunct) : Type 0 where
  pub fit : All FitsProblem ds
  pub rise : IsStrictlySortedBy disjunct_cmp ds

pub record IsProblem (positions : List (List Disjunct)) : Type 0 where
  pub few : length positions ≤ POSITIONS
  pub few_disjuncts : sum_by length positions ≤ DISJUNCTS
  pub each : All IsPosition positions
