use Rattle.lg_text.proofs.Painting.{IsDrawnTo}
use Rattle.lg_text.proofs.drawing.lines.draw_link.Given as goal

abbrev pub invariant-loop-column : goal.invariant-loop-column
invariant-loop-column l = IsDrawnTo l.link l.column l.initial.line l.line
