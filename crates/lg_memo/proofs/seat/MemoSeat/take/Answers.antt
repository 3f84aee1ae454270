use Rattle.std.proofs.Common.{ℕ, ◌<◌, sym, ◌∙◌, subst}
use Rattle.lg_memo.proofs.Taking.{take_allows}
use Rattle.lg_memo.proofs.Seats.{first_apart}
use Rattle.lg_memo.proofs.seat.MemoSeat.take.Goals as goal

pub fetch_or-found-requires : goal.fetch_or-found-requires
fetch_or-found-requires g c =
    let free = c.requires in
    let memo = c.args.memo.now in
    let shared = memo.table.shared in
    let seat = c.args.self.now.seat in
    let i : ℕ = c.index_of-index.result in
    let less : i < memo.shards = c.index_of-index.ensures.within in
    let in_words : i < shared.table_id.words = subst (λ (m : ℕ). i < m) (sym memo.words) less in
    let in_memo : i < shared.key.shards = subst (λ (m : ℕ). i < m) (sym memo.told) less in
    (free.same_table, in_words, take_allows _ shared.key shared.table_id.slots seat.id seat.me i free.same_memo free.no_shard in_memo)

pub exchange-requires : goal.exchange-requires
exchange-requires g c =
    let e = c.fetch_or-found.ensures in
    let t = e.2.1 c.if-parity-eq1.false in
    (e.0 ∙ c.requires.same_table, (t.content, first_apart c.fetch_or-found.new.seat.me.1 c.args.self.now.seat.me.1 (c.index_of-index.result, t.content) (λ i. (t.seat i).1)))
