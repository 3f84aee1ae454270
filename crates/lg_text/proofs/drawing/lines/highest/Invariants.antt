use Rattle.std.proofs.Common.{◌≡◌, take}
use Rattle.lg_text.specs.Diagrams.{greatest}
use Rattle.lg_text.proofs.drawing.lines.highest.Given as goal

abbrev pub invariant-loop-link : goal.invariant-loop-link
invariant-loop-link l = l.highest ≡ greatest (λ d. d.height) 0 (take l.link-index l.links)
