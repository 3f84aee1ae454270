use Rattle.lg_memo.proofs.Dealt.{dealt_free, dealt_all}
use Rattle.lg_memo.proofs.memo.Memo.make.Goals as goal

pub returns-clause-free : goal.returns-clause-free
returns-clause-free g c =
    let shared = c.in_ok-memo.memo.table.shared in
    dealt_free shared.table_id shared.key (λ s. (s.seat.table_id, s.seat.me)) c.in_ok-dealt.dealt.items _ c.in_ok-dealt.ensures

pub returns-clause-all : goal.returns-clause-all
returns-clause-all g c =
    let shared = c.in_ok-memo.memo.table.shared in
    dealt_all shared.table_id shared.key (λ s. (s.seat.table_id, s.seat.me)) c.in_ok-dealt.dealt.items c.args.seats c.in_ok-dealt.ensures
