use Rattle.std.proofs.Common.{◌≡◌, ◌++◌}
use Rattle.lg_text.specs.Diagrams.{link_lines, highest}
use Rattle.lg_text.proofs.drawing.lines.write_link_lines.Given as goal

-- what is left gives the rest
abbrev pub invariant-loop-height : goal.invariant-loop-height
invariant-loop-height l = l.out.items ++ link_lines l.mark l.links l.columns l.height ≡ l.initial.out.items ++ link_lines l.mark l.links l.columns (highest l.links)

abbrev pub decreases-loop-height : goal.decreases-loop-height
decreases-loop-height l = l.height
