use Rattle.std.proofs.Common.{take}
use Rattle.lg_disj.specs.Ranks.{HavePlaces}
use Rattle.lg_disj.proofs.numbers.with_places.Given as goal

abbrev pub invariant-loop-row : goal.invariant-loop-row
invariant-loop-row l = HavePlaces l.ranked l.lists.keys (take l.row-index l.rows) l.numbered.items
