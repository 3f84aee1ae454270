use Rattle.std.proofs.Common.{◌≡◌, ◌*◌, drop, pos, neg_ℤ, ◌+ℤ◌, ◌≤ℤ◌}
use Rattle.lg_gram.specs.Limits.{DISJUNCT_COST}
use Rattle.lg_gram.specs.Linkages.{cost_sum}
use Rattle.lg_gram.proofs.linkage.sum_of_costs.Given as goal

abbrev pub invariant-loop-choice : goal.invariant-loop-choice
invariant-loop-choice l = record {
  told : l.sum +ℤ cost_sum (drop l.choice-index l.choices) ≡ cost_sum l.choices;
  low : neg_ℤ (pos (l.choice-index * DISJUNCT_COST)) ≤ℤ l.sum;
  high : l.sum ≤ℤ pos (l.choice-index * DISJUNCT_COST);
}
