use Rattle.lg_sharpen.specs.Sites.{items_in}
use Rattle.lg_sharpen.specs.Bounds.{NarrowsAll}
use Rattle.lg_sharpen.proofs.narrow.narrow_all.Given as goal

abbrev pub invariant-loop-index : goal.invariant-loop-index
invariant-loop-index l = NarrowsAll l.right l.most l.gaps l.sides l.table (items_in l.fn.lists) (items_in l.lists)
