use Rattle.std.proofs.Common.{ℕ, ◌<◌}
use Rattle.lg_rules.specs.Prunes.{HasLeft}
use Rattle.lg_rules.proofs.list.pruning.left_reached.Given as goal

abbrev pub invariant-loop-place : goal.invariant-loop-place
invariant-loop-place l = (p : ℕ) → p < l.place → HasLeft l.links l.position p
