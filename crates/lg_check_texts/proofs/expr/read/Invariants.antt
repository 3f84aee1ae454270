use Rattle.std.proofs.Common.{◌-◌, ◌≤◌, length}
use Rattle.lg_check_texts.proofs.expr.read.Given as goal

-- each token has a byte or more
abbrev pub invariant-loop-found : goal.invariant-loop-found
invariant-loop-found l = (l.from ≤ length l.text) × (l.count ≤ l.from)

abbrev pub decreases-loop-found : goal.decreases-loop-found
decreases-loop-found l = length l.text - l.from
