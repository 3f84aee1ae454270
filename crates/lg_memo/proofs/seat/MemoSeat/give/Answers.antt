use Rattle.std.proofs.Common.{◌≡◌, ℕ, ◌*◌, ◌<◌, refl, ap, ◌∙◌, subst, length, arith}
use Rattle.lg_memo.specs.Entries.{AreRight}
use Rattle.lg_memo.proofs.Seats.{gives_back, gave_view, gave_is_free}
use Rattle.lg_memo.proofs.seat.MemoSeat.give.Goals as goal

pub store-requires : goal.store-requires
store-requires g c =
    let seat = c.args.self.now.seat in
    let memo = c.args.memo.now in
    let shared = memo.table.shared in
    let shard = c.args.shard in
    let had = c.requires.has.1 in
    let e = c.exchange.ensures in
    let word : 2 * c.len.result ≡ 2 * length shard.entries.items = ap (λ (n : ℕ). 2 * n) (c.len.ensures ∙ shard.entries.ok.0) in
    let in_words : shard.number < shared.table_id.words = omega (arith, had.within, memo.told, memo.words) in (
      e.0 ∙ had.same_table,
      in_words,
      gives_back shared.table_id shared.key seat.table_id seat.me shard.number c.requires.has.0 (length shard.entries.items) _ _ had c.exchange.new.seat.me e.3 (2 * c.len.result) word _ shared.table_id.slots c.exchange.new.seat.id
          (record { same_number = refl; size = refl; right = c.requires.right })
          c.requires.has.2 shard.few,
    )

pub returns-clause-given : goal.returns-clause-given
returns-clause-given g c =
    let seat = c.args.self.now.seat in
    let shared = c.args.memo.now.table.shared in
    let shard = c.args.shard in
    let word : 2 * c.len.result ≡ 2 * length shard.entries.items = ap (λ (n : ℕ). 2 * n) (c.len.ensures ∙ shard.entries.ok.0) in
    gave_view shared.table_id shared.key seat.table_id seat.me shard.number c.requires.has.0 (length shard.entries.items) _ _ c.requires.has.1 c.exchange.new.seat.me c.exchange.ensures.3 (2 * c.len.result) word
    shared.table_id.slots c.store.new.seat.me c.store.ensures.2

pub returns-clause-free : goal.returns-clause-free
returns-clause-free g c =
    let seat = c.args.self.now.seat in
    let shared = c.args.memo.now.table.shared in
    let shard = c.args.shard in
    let word : 2 * c.len.result ≡ 2 * length shard.entries.items = ap (λ (n : ℕ). 2 * n) (c.len.ensures ∙ shard.entries.ok.0) in
    gave_is_free shared.table_id shared.key seat.table_id seat.me shard.number c.requires.has.0 (length shard.entries.items) _ _ c.requires.has.1 c.exchange.new.seat.me c.exchange.ensures.3 (2 * c.len.result) word
    shared.table_id.slots c.store.new.seat.me c.store.ensures.2 c.store.new.seat.table_id (c.store.ensures.0 ∙ c.exchange.ensures.0)
