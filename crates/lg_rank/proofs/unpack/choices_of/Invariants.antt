use Rattle.std.proofs.Common.{◌≡◌, ℕ, ◌<◌, [], None, length, slice_index_or}
use Rattle.lg_rank.specs.Meanings.{IsCodeOf}
use Rattle.lg_rank.proofs.unpack.choices_of.Given as goal

abbrev pub invariant-loop-i : goal.invariant-loop-i
invariant-loop-i l = record {
  long : length l.choices.items ≡ l.i;
  each : (j : ℕ) → j < l.i → IsCodeOf (slice_index_or l.problem j []) (slice_index_or l.choices.items j None) (slice_index_or l.codes j 0);
}
