use Rattle.std.proofs.Common.{◌≡◌, ◌-◌, [], ◌∷◌, map}
use Rattle.std.specs.List.{range_with_len}
use Rattle.lg_memo.specs.Steps.{at_start}
use Rattle.lg_memo.proofs.seat.MemoSeat.deal.Given as goal

abbrev pub invariant-loop : goal.invariant-loop
invariant-loop g l =
    ((l.self.seat.table_id, l.self.seat.me) ≡ at_start l.memo.table.shared.table_id l.memo.table.shared.key (range_with_len (l.counter - 1) (l.seats - (l.counter - 1))))
    × (map (λ s. (s.seat.table_id, s.seat.me)) l.dealt.items ≡ map (λ n. at_start l.memo.table.shared.table_id l.memo.table.shared.key (n ∷ [])) (range_with_len 0 (l.counter - 1)))
