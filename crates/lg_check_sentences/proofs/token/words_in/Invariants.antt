use Rattle.std.proofs.Common.{◌≢◌, ◌-◌, ◌≤◌, length, AllPairs}
use Rattle.lg_check_sentences.proofs.token.words_in.Given as goal

abbrev pub invariant-loop-run : goal.invariant-loop-run
invariant-loop-run l = record {
  in_range : l.from ≤ length l.text;
  apart : AllPairs (λ a b. a ≢ b) l.words.items;
}

abbrev pub decreases-loop-run : goal.decreases-loop-run
decreases-loop-run l = length l.text - l.from
