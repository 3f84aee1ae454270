use Rattle.std.proofs.Common.{◌-◌, ◌*◌, ◌≤◌, length}
use Rattle.lg_token.proofs.Counting.{CountsChunks}
use Rattle.lg_token.proofs.count.count_in_chunks.Given as goal

abbrev pub invariant-loop-run : goal.invariant-loop-run
invariant-loop-run l = record {
  in_range : l.from ≤ length l.text;
  few : l.count ≤ 2 * l.from;
  counted : CountsChunks l.view l.text l.initial' l.from l.count;
}

abbrev pub decreases-loop-run : goal.decreases-loop-run
decreases-loop-run l = length l.text - l.from
