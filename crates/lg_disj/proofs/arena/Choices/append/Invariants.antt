use Rattle.std.proofs.Common.{◌≡◌, ◌++◌, map, take}
use Rattle.lg_disj.proofs.Rows.{behind}
use Rattle.lg_disj.proofs.arena.Choices.append.Given as goal

abbrev pub invariant-loop-row : goal.invariant-loop-row
invariant-loop-row l = (l.self.places.items ≡ l.fn.self.places.items ++ l.others.places.items) × (l.self.rows.items ≡ l.fn.self.rows.items ++ map (behind l.start) (take l.row-index l.others.rows.items))
