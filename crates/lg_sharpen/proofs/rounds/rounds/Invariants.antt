use Rattle.lg_sharpen.specs.Sites.{items_in}
use Rattle.lg_sharpen.specs.Bounds.{KeepsStanding}
use Rattle.lg_sharpen.proofs.rounds.rounds.Given as goal

abbrev pub invariant-loop : goal.invariant-loop
invariant-loop l =
    KeepsStanding l.words l.most (items_in l.fn.left_lists) (items_in l.fn.right_lists) l.fn.members.items (items_in l.left_lists) (items_in l.right_lists) l.members.items
