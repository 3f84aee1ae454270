use Rattle.lg_text.proofs.Lines.{lines_more, lines_end}
use Rattle.lg_text.proofs.drawing.lines.write_link_lines.Goals as goal

pub loop-height-preserved : goal.loop-height-preserved
loop-height-preserved c =
    lines_more c.args.mark.now c.args.links.now c.args.columns c.loop-height.height _ _ _ _ c.loop-height-test.true c.in_ok-write_bytes.ensures.ok c.in_ok-write_link_line.ensures c.loop-height.invariant

pub returns : goal.returns
returns c = lines_end c.args.mark.now c.args.links.now c.args.columns c.loop-height.height _ _ c.loop-height-test.false c.loop-height.invariant
