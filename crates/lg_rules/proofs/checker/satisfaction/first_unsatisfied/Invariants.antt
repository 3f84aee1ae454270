use Rattle.std.proofs.Common.{ℕ, ◌<◌, Bool}
use Rattle.lg_rules.specs.Places.{linkage_of}
use Rattle.lg_rules.specs.Checks.{AreServed}
use Rattle.lg_rules.proofs.checker.satisfaction.first_unsatisfied.Given as goal

-- the positions so far have their links
abbrev pub invariant-loop-position : goal.invariant-loop-position
invariant-loop-position l = (i : ℕ) → i < l.position → (right : Bool) → AreServed (linkage_of l.chosen l.links) i right
