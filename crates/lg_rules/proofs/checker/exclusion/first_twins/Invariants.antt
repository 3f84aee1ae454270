use Rattle.std.proofs.Common.{ℕ, ◌<◌, []}
use Rattle.lg_rules.specs.Places.{linkage_of}
use Rattle.lg_rules.specs.Verdicts.{TwiceAt}
use Rattle.lg_rules.proofs.checker.exclusion.first_twins.Given as goal

-- the links so far have no twin
abbrev pub invariant-loop-m : goal.invariant-loop-m
invariant-loop-m l = (a b : ℕ) → a < l.m → TwiceAt (linkage_of [] l.links) a b → ⊥
