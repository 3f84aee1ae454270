use Rattle.lg_sharpen.specs.Sites.{AddsSites}
use Rattle.lg_sharpen.proofs.table.push_sites.Given as goal

abbrev pub invariant-loop-site : goal.invariant-loop-site
invariant-loop-site l = AddsSites l.position l.sites l.site-index l.fn.table l.table
