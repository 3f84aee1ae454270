use Rattle.lg_sharpen.specs.Bounds.{SetsNeeds}
use Rattle.lg_sharpen.specs.Sites.{items_in}
use Rattle.lg_sharpen.proofs.needs.set_needs.Given as goal

abbrev pub invariant-loop-index : goal.invariant-loop-index
invariant-loop-index l = SetsNeeds l.needs (items_in l.fn.lists) (items_in l.lists)
