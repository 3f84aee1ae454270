use Rattle.std.proofs.Common.{◌≡◌, ◌+◌, ◌*◌}
use Rattle.lg_memo.specs.Steps.{IsFree}
use Rattle.lg_forest.specs.Search.{key_width, part_bound, alt_bound}
use Rattle.lg_forest.proofs.worker.+walking.Given as goal

abbrev pub decreases-visit : goal.decreases-visit
decreases-visit l = 3 * key_width l.lists.now.positions l.key + 2

abbrev pub decreases-is_live : goal.decreases-is_live
decreases-is_live l = 3 * alt_bound l.lists.now.positions l.alt + 1

abbrev pub decreases-visit_part : goal.decreases-visit_part
decreases-visit_part l = 3 * part_bound l.lists.now.positions l.key

-- the seat is free, and stands for the same numbers
abbrev pub invariant-visit-loop-turn : goal.invariant-visit-loop-turn
invariant-visit-loop-turn l = record {
  free : IsFree l.memo.table.shared.table_id l.memo.table.shared.key l.worker.seat.seat.table_id l.worker.seat.seat.me;
  numbers : l.worker.seat.seat.me.0.numbers ≡ l.fn.worker.seat.seat.me.0.numbers;
}
