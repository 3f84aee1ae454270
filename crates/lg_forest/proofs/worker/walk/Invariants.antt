use Rattle.std.proofs.Common.{◌≡◌}
use Rattle.lg_memo.specs.Steps.{IsFree}
use Rattle.lg_forest.proofs.worker.walk.Given as goal

-- the seat is free, and stands for the same numbers
abbrev pub invariant-loop-nulls : goal.invariant-loop-nulls
invariant-loop-nulls l = record {
  free : IsFree l.memo.table.shared.table_id l.memo.table.shared.key l.worker.seat.seat.table_id l.worker.seat.seat.me;
  numbers : l.worker.seat.seat.me.0.numbers ≡ l.fn.seat.seat.me.0.numbers;
}
