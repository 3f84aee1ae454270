use Rattle.std.proofs.Common.{◌≡◌, map, take}
use Rattle.lg_edit.proofs.applying.names.Given as goal

abbrev pub invariant-loop-item : goal.invariant-loop-item
invariant-loop-item l = l.texts.items ≡ map (λ i. i.text) (take l.item-index l.item-items)
