use Rattle.std.proofs.Common.{◌-◌, ◌≤◌, length}
use Rattle.lg_token.proofs.Chunks.{AddsChunks}
use Rattle.lg_token.proofs.tokenizing.add_chunks.Given as goal

abbrev pub invariant-loop-run : goal.invariant-loop-run
invariant-loop-run l = record {
  in_range : l.from ≤ length l.text;
  added : AddsChunks l.view l.text l.initial.places.items l.initial' l.from l.places.items;
}

abbrev pub decreases-loop-run : goal.decreases-loop-run
decreases-loop-run l = length l.text - l.from
