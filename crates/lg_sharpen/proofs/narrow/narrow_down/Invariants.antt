use Rattle.lg_sharpen.proofs.Narrowing.{NarrowsSame}
use Rattle.lg_sharpen.proofs.narrow.narrow_down.Given as goal

abbrev pub invariant-loop-behind : goal.invariant-loop-behind
invariant-loop-behind l = NarrowsSame l.right l.most l.gaps l.position l.table l.fn.sites.items l.sites.items
