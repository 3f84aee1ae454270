use Rattle.std.proofs.Common.{◌≡◌, ℕ, ◌<◌, ◌+◌, get_or, Less}
use Rattle.lg_gram.proofs.order.is_rising.Given as goal

abbrev pub invariant-loop-i : goal.invariant-loop-i
invariant-loop-i g l = (k : ℕ) (d : g.row.T.Denot) → k + 1 < l.i → g.T.Ranked.rank (get_or l.items k d) (get_or l.items (k + 1) d) ≡ Less
