use Rattle.lg_sharpen.proofs.Narrowing.{NarrowsSame}
use Rattle.lg_sharpen.proofs.narrow.narrow_up.Given as goal

abbrev pub invariant-loop-place : goal.invariant-loop-place
invariant-loop-place l = NarrowsSame l.right l.most l.gaps l.position l.table l.fn.sites.items l.sites.items
