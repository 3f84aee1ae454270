use Rattle.std.proofs.Common.{◌≡◌, ℕ, ◌<◌, length}
use Rattle.lg_walks.specs.Islands.{LeadTo}
use Rattle.lg_walks.proofs.islands.root.Given as goal

-- the position so far has the same root
abbrev pub invariant-loop-at : goal.invariant-loop-at
invariant-loop-at l = record {
  within : l.at < length l.labels;
  same : (roots : ℕ → ℕ) → LeadTo l.labels roots → roots l.at ≡ roots l.of;
}

abbrev pub decreases-loop-at : goal.decreases-loop-at
decreases-loop-at l = l.at
