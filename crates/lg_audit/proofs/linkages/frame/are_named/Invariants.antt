use Rattle.std.proofs.Common.{take}
use Rattle.std.specs.List.{All}
use Rattle.lg_audit.specs.Replies.{IsNamed}
use Rattle.lg_audit.specs.Views.{item_of}
use Rattle.lg_audit.specs.declared.shown.ShownItem.{ShownItem as Item}
use Rattle.lg_audit.proofs.linkages.frame.are_named.Given as goal

abbrev pub invariant-loop-item : goal.invariant-loop-item
invariant-loop-item l = All (λ (x : Item). IsNamed l.know l.tokens (item_of x)) (take l.item-index l.items)
