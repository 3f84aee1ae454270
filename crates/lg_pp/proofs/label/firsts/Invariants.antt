use Rattle.std.proofs.Common.{◌≡◌, ◌≤◌, ◌<◌, ℕ, length, get_or}
use Rattle.std.specs.Prelude.{slice_get}
use Rattle.lg_pp.proofs.label.firsts.Given as goal

-- the places for the labels so far
abbrev pub invariant-loop-n : goal.invariant-loop-n
invariant-loop-n l = record {
  enough : length l.firsts.items ≡ l.n;
  within : (k : ℕ) → k < l.n → get_or l.firsts.items k 0 ≤ k;
  equal : (k : ℕ) → k < l.n → slice_get l.labels (get_or l.firsts.items k 0) ≡ slice_get l.labels k;
}
