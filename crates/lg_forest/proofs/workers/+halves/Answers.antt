use Rattle.std.proofs.Common.{IfOk}
use Rattle.lg_memo.specs.Steps.{IsFree}
use Rattle.lg_forest.proofs.Back.{AreBack, both_back}
use Rattle.lg_forest.proofs.workers.+halves.Goals as goal

pub returns : goal.returns
returns g t c =
    let shared = c.args.memo.now.table.shared in
    let low = c.split_off.new.self.items in
    let high = c.in_ok-high.high.items in
    let cut = c.in_ok-high.ensures in
    let first : IfOk c.join-first.result.0 (λ back. AreBack (λ s. IsFree shared.table_id shared.key s.seat.table_id s.seat.me) (λ s. s.seat.me.0.numbers) low back.items) = c.join-first.ensures.first in
    let second : IfOk c.join-first.result.1 (λ back. AreBack (λ s. IsFree shared.table_id shared.key s.seat.table_id s.seat.me) (λ s. s.seat.me.0.numbers) high back.items) = c.join-first.ensures.second in
    both_back c.args.seats.items low high c.in_ok-firsts.firsts.items c.in_ok-others.others.items c.append.new.self.items _ cut.items cut.tail c.in_ok-append.ensures.items
    (λ s. IsFree shared.table_id shared.key s.seat.table_id s.seat.me) (λ s. s.seat.me.0.numbers) (rw c.in_ok-firsts.was at first) (rw c.in_ok-others.was at second)
