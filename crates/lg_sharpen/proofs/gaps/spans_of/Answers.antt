use Rattle.lg_sharpen.specs.Filling.{rows_in}
use Rattle.lg_sharpen.proofs.Rows.{spans_more}
use Rattle.lg_sharpen.proofs.gaps.spans_of.Goals as goal

pub loop-position-preserved : goal.loop-position-preserved
loop-position-preserved c =
    spans_more c.args.right c.args.words c.args.most (rows_in c.args.least.now) c.loop-position.position c.loop-position.rows.items c.push.new.self.items c.in_ok-row.row c.in_ok-push.ensures.items c.in_ok-row.ensures c.loop-position.invariant
