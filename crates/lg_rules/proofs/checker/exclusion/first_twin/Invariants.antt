use Rattle.std.proofs.Common.{◌≡◌, ℕ, ◌<◌, Some}
use Rattle.std.specs.Prelude.{slice_get}
use Rattle.lg_gram.specs.declared.linkage.Link.{Link}
use Rattle.lg_rules.specs.Checks.{IsTwin}
use Rattle.lg_rules.proofs.checker.exclusion.first_twin.Given as goal

-- the links so far, but for the one of number m, have other positions
abbrev pub invariant-loop-n : goal.invariant-loop-n
invariant-loop-n l = (k : ℕ) (other : Link) → k < l.n → (l.m ≡ k → ⊥) → slice_get l.links k ≡ Some other → IsTwin l.link other → ⊥
