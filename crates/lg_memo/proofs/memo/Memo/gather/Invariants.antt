use Rattle.std.proofs.Common.{◌≡◌, ◌++◌}
use Rattle.std.specs.List.{All, flat_map}
use Rattle.lg_memo.specs.Steps.{IsFree}
use Rattle.lg_memo.proofs.memo.Memo.gather.Given as goal

abbrev pub invariant-loop-seat : goal.invariant-loop-seat
invariant-loop-seat g l =
    IsFree l.self.table.shared.table_id l.self.table.shared.key l.all.seat.table_id l.all.seat.me
    × All (λ s. IsFree l.self.table.shared.table_id l.self.table.shared.key s.seat.table_id s.seat.me) l.seats.items
    × (flat_map (λ s. s.seat.me.0.numbers) l.seats.items ++ l.all.seat.me.0.numbers ≡ flat_map (λ s. s.seat.me.0.numbers) l.fn.seats.items)
    × (flat_map (λ s. s.seat.me.0.known) l.seats.items ++ l.all.seat.me.0.known ≡ flat_map (λ s. s.seat.me.0.known) l.fn.seats.items)

abbrev pub decreases-loop-seat : goal.decreases-loop-seat
decreases-loop-seat g l = goal.left-loop-seat g l
