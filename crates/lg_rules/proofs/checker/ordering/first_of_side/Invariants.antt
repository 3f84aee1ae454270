use Rattle.std.proofs.Common.{ℕ, ◌<◌}
use Rattle.lg_rules.specs.Places.{linkage_of}
use Rattle.lg_rules.specs.Verdicts.{OrderAt}
use Rattle.lg_rules.proofs.checker.ordering.first_of_side.Given as goal

-- the places so far are in order
abbrev pub invariant-loop-place : goal.invariant-loop-place
invariant-loop-place l = (p : ℕ) → p < l.place → OrderAt (linkage_of l.chosen l.links) l.position l.right p → ⊥
