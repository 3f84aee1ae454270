use Rattle.std.proofs.Common.{ℕ, ◌<◌, []}
use Rattle.lg_rules.specs.Places.{linkage_of}
use Rattle.lg_rules.specs.Verdicts.{CrossingAt}
use Rattle.lg_rules.proofs.checker.planarity.first_crossing.Given as goal

-- the links so far cross none
abbrev pub invariant-loop-m : goal.invariant-loop-m
invariant-loop-m l = (a b : ℕ) → a < l.m → CrossingAt (linkage_of [] l.links) a b → ⊥
