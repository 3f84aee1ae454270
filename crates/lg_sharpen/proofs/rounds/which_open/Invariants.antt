use Rattle.lg_sharpen.specs.Sites.{items_in}
use Rattle.lg_sharpen.proofs.Standing.{OpenUpTo}
use Rattle.lg_sharpen.proofs.rounds.which_open.Given as goal

abbrev pub invariant-loop-index : goal.invariant-loop-index
invariant-loop-index l = OpenUpTo (items_in l.lists) l.index l.flags.items
