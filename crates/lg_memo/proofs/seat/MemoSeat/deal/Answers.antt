use Rattle.std.proofs.Common.{refl, arith}
use Rattle.lg_memo.proofs.Deals.{dealt_more, dealt_last}
use Rattle.lg_memo.proofs.seat.MemoSeat.deal.Goals as goal

pub loop-preserved : goal.loop-preserved
loop-preserved g c =
    let shared = c.args.memo.now.table.shared in
    let seat = c.loop.self.seat in
    let given = c.split.result.seat in
    let left = c.split.new.self.seat in
    dealt_more shared.table_id shared.key (λ s. (s.seat.table_id, s.seat.me)) seat.table_id seat.me left.table_id left.me c.loop.counter c.args.seats (omega arith) c.loop-test.true c.loop.invariant.0
    c.loop.dealt.items c.push.new.self.items c.split.result c.loop.invariant.1 c.in_ok-push.ensures.items c.split.ensures.left c.split.ensures.given

pub returns : goal.returns
returns g c =
    let shared = c.args.memo.now.table.shared in
    let seat = c.loop.self.seat in
    dealt_last shared.table_id shared.key (λ s. (s.seat.table_id, s.seat.me)) seat.table_id seat.me c.loop.counter c.args.seats (omega arith) (omega arith) c.loop.invariant.0
    c.loop.dealt.items c.push-2.new.self.items c.loop.self refl c.loop.invariant.1 c.in_ok-push-2.ensures.items
