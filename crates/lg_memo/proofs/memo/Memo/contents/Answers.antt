use Rattle.lg_memo.proofs.Fresh.{one_more}
use Rattle.lg_memo.proofs.memo.Memo.contents.Goals as goal

pub loop-number-preserved : goal.loop-number-preserved
loop-number-preserved g c =
    one_more g.T.Fact.right c.loop-number.made.items (λ s. s.number) (λ s. s.entries.items) c.push.new.self.items c.empty.result c.loop-number.number
    c.loop-number.invariant.0 c.in_ok-push.ensures.items c.empty.ensures.number c.empty.ensures.entries c.loop-number.invariant.1
