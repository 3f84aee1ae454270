use Rattle.std.proofs.Common.{◌*◌, ◌^◌, List, drop, length}
use Rattle.lg_gram.specs.Linkages.{Linkage}
use Rattle.lg_run.specs.Printers.{together, HaveShares}
use Rattle.lg_run.proofs.Shares.{SharesSoFar}
use Rattle.lg_run.proofs.usage.totals_of.Given as goal

-- the sessions so far are counted, and those that are left are to come
abbrev pub invariant-loop-printed : goal.invariant-loop-printed
invariant-loop-printed l = (firsts : List (List Linkage)) → HaveShares firsts l.all
    → SharesSoFar (together firsts) (together (drop l.printed-index firsts)) (2 ^ 38) (2 ^ 32 * length (drop l.printed-index l.all)) l.totals
