use Rattle.lg_text.proofs.Lines.{line_is}
use Rattle.lg_text.proofs.drawing.lines.draw_line.Goals as goal

pub returns : goal.returns
returns c = line_is c.args.links.now c.args.height _ _ _ _ _ c.requires.blank c.draw_bars.ensures c.draw_links.ensures c.draw_ends.ensures
