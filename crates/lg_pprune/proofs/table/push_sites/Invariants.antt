use Rattle.lg_pprune.specs.Sites.{AddsSites}
use Rattle.lg_pprune.proofs.table.push_sites.Given as goal

abbrev pub invariant-loop-place : goal.invariant-loop-place
invariant-loop-place l = AddsSites l.right l.words l.side.position l.side.list.now l.place l.fn.table l.table
