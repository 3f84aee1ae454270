use Rattle.lg_idiom.proofs.Rows.{empty_more}
use Rattle.lg_idiom.proofs.adding.empty.Goals as goal

pub loop-position-preserved : goal.loop-position-preserved
loop-position-preserved c = empty_more c.loop-position._position c.loop-position.positions.items c.push.new.self.items c.new.result c.in_ok-push.ensures.items c.new.ensures.items c.loop-position.invariant
