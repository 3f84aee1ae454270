use Rattle.std.proofs.Common.{◌≡◌, ℕ, ◌<◌, ◌+◌, get_or, Less}
use Rattle.lg_gram.specs.Linkages.{Linkage, linkage_cmp}
use Rattle.lg_audit.proofs.linkages.rising.is_rising.Given as goal

-- each so far comes before the next
abbrev pub invariant-loop-i : goal.invariant-loop-i
invariant-loop-i l = (k : ℕ) (d : Linkage) → k + 1 < l.i → linkage_cmp (get_or l.shown k d) (get_or l.shown (k + 1) d) ≡ Less
