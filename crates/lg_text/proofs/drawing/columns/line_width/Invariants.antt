use Rattle.std.proofs.Common.{◌≡◌, suc, take}
use Rattle.lg_text.specs.Diagrams.{greatest}
use Rattle.lg_text.proofs.drawing.columns.line_width.Given as goal

abbrev pub invariant-loop-start : goal.invariant-loop-start
invariant-loop-start l = l.columns ≡ greatest suc 0 (take l.start-index l.starts)
