use Rattle.lg_pprune.proofs.Tables.{NoneBefore}
use Rattle.lg_pprune.proofs.table.has_partner.Given as goal

abbrev pub invariant-loop-position : goal.invariant-loop-position
invariant-loop-position l = NoneBefore l.right l.table l.site l.position
