use Rattle.std.proofs.Common.{◌≡◌, ◌++◌, map, take, drop}
use Rattle.lg_disj.specs.Places.{raised_row}
use Rattle.lg_disj.proofs.arena.raise.Given as goal

abbrev pub invariant-loop-row : goal.invariant-loop-row
invariant-loop-row l = l.rows ≡ map (raised_row l.price) (take l.row-index l.initial.rows) ++ drop l.row-index l.initial.rows
