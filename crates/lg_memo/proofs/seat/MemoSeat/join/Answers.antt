use Rattle.std.proofs.Common.{ℕ, ◌<◌, sym, subst}
use Rattle.lg_memo.proofs.Sharing.{join_allows}
use Rattle.lg_memo.proofs.Seats.{joined_is_free}
use Rattle.lg_memo.proofs.seat.MemoSeat.join.Goals as goal

pub join_seat-requires : goal.join_seat-requires
join_seat-requires g c =
    let seat = c.args.self.now.seat in
    let other = c.args.other.seat in
    let memo = c.args.memo.now in
    let shared = memo.table.shared in
    let mine = c.requires.free in
    let its = c.requires.other in
    let some_word : 0 < shared.table_id.words = subst (λ (m : ℕ). 0 < m) (sym memo.words) memo.some_shard in
    (mine.same_table, its.same_table, its.no_slot, some_word, join_allows _ shared.key seat.id seat.me.0 other.id other.me.0 mine.same_memo mine.no_shard its.no_shard)

pub returns-clause-joined : goal.returns-clause-joined
returns-clause-joined g c = λ i. (c.join_seat.ensures.2 i).0

pub returns-clause-free : goal.returns-clause-free
returns-clause-free g c =
    let seat = c.args.self.now.seat in
    let shared = c.args.memo.now.table.shared in
    let new = c.join_seat.new.seat in
    joined_is_free shared.table_id shared.key seat.table_id seat.me c.requires.free c.args.other.seat.me.0 new.table_id new.me c.join_seat.ensures.0 c.join_seat.ensures.2
