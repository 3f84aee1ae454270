use Rattle.std.proofs.Common.{ℕ, ◌<◌, length}
use Rattle.lg_rules.specs.Partners.{right_at, left_at}
use Rattle.lg_rules.specs.Prunes.{HasRight, HasLeft}
use Rattle.lg_rules.proofs.list.pruning.all_reached.Given as goal

abbrev pub invariant-loop-position : goal.invariant-loop-position
invariant-loop-position l = record {
  on_right : (i p : ℕ) → i < l.position → p < length (right_at l.chosen i) → HasRight l.links i p;
  on_left : (i p : ℕ) → i < l.position → p < length (left_at l.chosen i) → HasLeft l.links i p;
}
