use Rattle.std.proofs.Common.{◌≡◌, take}
use Rattle.lg_disj.specs.Lists.{lists_in}
use Rattle.lg_disj.proofs.outline.made.Given as goal

abbrev pub invariant-loop-number : goal.invariant-loop-number
invariant-loop-number l = l.made.items ≡ take l.number (lists_in l.lists)
