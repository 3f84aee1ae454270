use Rattle.std.proofs.Common.{◌≡◌, ℕ, ◌<◌, ◌≤◌, get_or, length}
use Rattle.lg_walks.specs.Islands.{LeadTo}
use Rattle.lg_walks.proofs.islands.settle.Given as goal

-- the positions so far have their roots, and the others what they had
abbrev pub invariant-loop-i : goal.invariant-loop-i
invariant-loop-i l = record {
  enough : length l.labels ≡ length l.initial.labels;
  done : (roots : ℕ → ℕ) → LeadTo l.initial.labels roots → (k : ℕ) → k < l.i → get_or l.labels k 0 ≡ roots k;
  rest : (k : ℕ) → l.i ≤ k → get_or l.labels k 0 ≡ get_or l.initial.labels k 0;
}
