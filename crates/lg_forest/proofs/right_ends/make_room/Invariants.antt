use Rattle.std.proofs.Common.{◌≡◌, ℕ, suc, ◌-◌, length}
use Rattle.lg_forest.specs.RightEnds.{entry, rows_in}
use Rattle.lg_forest.proofs.right_ends.make_room.Given as goal

-- empty rows more have no entry
abbrev pub invariant-loop-alloc : goal.invariant-loop-alloc
invariant-loop-alloc l = (w list : ℕ) → entry (rows_in l.numbers.items) w list ≡ entry (rows_in l.fn.numbers.items) w list

abbrev pub decreases-loop-alloc : goal.decreases-loop-alloc
decreases-loop-alloc l = suc l.word - length l.numbers.items
