use Rattle.std.proofs.Common.{ℕ, ◌<◌, Bool}
use Rattle.lg_rules.specs.Places.{linkage_of}
use Rattle.lg_rules.specs.Verdicts.{OrderAt}
use Rattle.lg_rules.proofs.checker.ordering.first_disorder.Given as goal

-- the positions so far are in order
abbrev pub invariant-loop-position : goal.invariant-loop-position
invariant-loop-position l = (i : ℕ) → i < l.position → (right : Bool) (p : ℕ) → OrderAt (linkage_of l.chosen l.links) i right p → ⊥
