use Rattle.std.proofs.Common.{◌≤◌}
use Rattle.lg_check_forest.proofs.ranked.listed.Given as goal

-- no more linkages were given than there were turns
abbrev pub invariant-loop : goal.invariant-loop
invariant-loop l = l.ranked.position ≤ l.counter
