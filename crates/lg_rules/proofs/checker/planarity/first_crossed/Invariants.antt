use Rattle.std.proofs.Common.{◌≡◌, ℕ, ◌<◌, Some}
use Rattle.std.specs.Prelude.{slice_get}
use Rattle.lg_gram.specs.declared.linkage.Link.{Link}
use Rattle.lg_rules.specs.Checks.{Crosses}
use Rattle.lg_rules.proofs.checker.planarity.first_crossed.Given as goal

-- the links so far are not crossed
abbrev pub invariant-loop-n : goal.invariant-loop-n
invariant-loop-n l = (k : ℕ) (other : Link) → k < l.n → slice_get l.links k ≡ Some other → Crosses l.link other → ⊥
