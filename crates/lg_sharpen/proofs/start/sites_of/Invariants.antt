use Rattle.lg_sharpen.specs.Sites.{items_in}
use Rattle.lg_sharpen.proofs.Tables.{AllStartedUpTo}
use Rattle.lg_sharpen.proofs.start.sites_of.Given as goal

abbrev pub invariant-loop-side : goal.invariant-loop-side
invariant-loop-side l = AllStartedUpTo l.right l.words l.sides l.side-index (items_in l.lists.items)
