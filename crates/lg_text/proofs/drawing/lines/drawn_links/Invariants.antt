use Rattle.std.proofs.Common.{◌≡◌, map, take}
use Rattle.lg_text.specs.Diagrams.{drawn_of}
use Rattle.lg_text.proofs.drawing.lines.drawn_links.Given as goal

abbrev pub invariant-loop-i : goal.invariant-loop-i
invariant-loop-i l = l.drawn.items ≡ map (drawn_of l.g l.starts) (take l.i l.links)
