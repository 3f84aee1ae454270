use Rattle.lg_export.proofs.Spelled.{one_repeated}
use Rattle.lg_export.proofs.text.write_repeated.Goals as goal

pub loop-preserved : goal.loop-preserved
loop-preserved c = one_repeated _ _ _ _ _ _ c.loop-test.true c.in_ok-push.ensures.items c.loop.invariant
