use Rattle.std.proofs.Common.{◌≡◌, ◌++◌, map, drop}
use Rattle.std.specs.List.{zip}
use Rattle.lg_text.specs.Diagrams.{cell, cells_line}
use Rattle.lg_text.proofs.drawing.words.write_words.Given as goal

-- what is left gives the rest
abbrev pub invariant-loop-i : goal.invariant-loop-i
invariant-loop-i l = l.out.items ++ cells_line l.at (drop l.i (map cell (zip l.tokens l.choices))) (drop l.i l.starts)
    ≡ l.initial.out.items ++ cells_line 0 (map cell (zip l.tokens l.choices)) l.starts
