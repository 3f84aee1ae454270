use Rattle.std.proofs.Common.{rules}
use Rattle.lg_sharpen.specs.Filling.{rows_in}
use Rattle.lg_sharpen.proofs.Counting.{span_more}
use Rattle.lg_sharpen.proofs.gaps.span_row.Goals as goal

pub loop-length-preserved : goal.loop-length-preserved
loop-length-preserved c =
    let at = c.loop-length in
    span_more c.args.right c.args.words c.args.most (rows_in c.args.least.now) c.args.position at.length c.beside-others.result c.in_ok-counts.counts.items at.row.items c.push.new.self.items c.is_open.result c.in_ok-counts.ensures
    c.in_ok-push.ensures.items (search rules) (c.beside-others.ensures (rows_in c.args.least.now) c.args.words c.requires) at.invariant
