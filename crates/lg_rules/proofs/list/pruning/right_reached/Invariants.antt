use Rattle.std.proofs.Common.{ℕ, ◌<◌}
use Rattle.lg_rules.specs.Prunes.{HasRight}
use Rattle.lg_rules.proofs.list.pruning.right_reached.Given as goal

abbrev pub invariant-loop-place : goal.invariant-loop-place
invariant-loop-place l = (p : ℕ) → p < l.place → HasRight l.links l.position p
