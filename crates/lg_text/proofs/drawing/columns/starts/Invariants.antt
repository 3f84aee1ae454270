use Rattle.std.proofs.Common.{◌≡◌}
use Rattle.lg_text.specs.Diagrams.{cells, starts_of}
use Rattle.lg_text.proofs.drawing.columns.starts.Given as goal

abbrev pub invariant-loop-position : goal.invariant-loop-position
invariant-loop-position l = l.starts.items ≡ starts_of (cells l.tokens l.g) l.g l.position
