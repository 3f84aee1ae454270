use Rattle.std.proofs.Common.{ℕ, ◌<◌, sym, subst}
use Rattle.lg_memo.proofs.Deals.{split_start, same_start, left_start, given_start}
use Rattle.lg_memo.proofs.seat.MemoSeat.split.Goals as goal

pub split_seat-seat-requires : goal.split_seat-seat-requires
split_seat-seat-requires g c =
    let seat = c.args.self.now.seat in
    let memo = c.args.memo.now in
    let shared = memo.table.shared in
    let some_word : 0 < shared.table_id.words = subst (λ (m : ℕ). 0 < m) (sym memo.words) memo.some_shard in
    let two = c.requires.two in
    (same_start shared.table_id shared.key seat.table_id seat.me c.requires.start, some_word, split_start shared.table_id shared.key _ seat.id two.0 seat.table_id seat.me c.requires.start two.1 two.2)

pub returns-clause-left : goal.returns-clause-left
returns-clause-left g c =
    let seat = c.args.self.now.seat in
    let shared = c.args.memo.now.table.shared in
    let e = c.split_seat-seat.ensures in
    let new = c.split_seat-seat.new.seat in
    left_start shared.table_id shared.key seat.table_id new.table_id seat.me new.me c.requires.start e.0 e.2

pub returns-clause-given : goal.returns-clause-given
returns-clause-given g c =
    let seat = c.args.self.now.seat in
    let shared = c.args.memo.now.table.shared in
    let e = c.split_seat-seat.ensures in
    let given = c.split_seat-seat.result in
    given_start shared.table_id shared.key seat.table_id given.table_id seat.me given.me c.requires.start e.3 e.4
