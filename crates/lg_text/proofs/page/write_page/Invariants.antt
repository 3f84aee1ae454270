use Rattle.std.proofs.Common.{◌≡◌, ◌++◌, take}
use Rattle.std.specs.List.{flat_map}
use Rattle.lg_text.specs.Pages.{item_text}
use Rattle.lg_text.proofs.page.write_page.Given as goal

-- the candidates so far are written
abbrev pub invariant-loop-item : goal.invariant-loop-item
invariant-loop-item l = l.out.items ≡ l.initial.out.items ++ flat_map (item_text l.look l.tokens) (take l.item-index l.item-items)
