use Rattle.std.proofs.Common.{ap, arith}
use Rattle.lg_text.proofs.Painting.{all_drawn}
use Rattle.lg_text.proofs.drawing.lines.draw_link.Goals as goal

pub returns : goal.returns
returns c =
    let end = ap (λ d. d.to) c.link.view_is in
    all_drawn _ c.loop-column.column _ _ (omega arith) c.loop-column.invariant
