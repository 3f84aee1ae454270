use Rattle.std.proofs.Common.{take, if◌then◌else◌}
use Rattle.std.specs.List.{filter, list_any}
use Rattle.lg_text.specs.Diagrams.{ends_at, is_at}
use Rattle.lg_text.specs.Painted.{Paints}
use Rattle.lg_text.proofs.drawing.lines.draw_ends.Given as goal

-- the plus signs of the links so far are drawn
abbrev pub invariant-loop-link : goal.invariant-loop-link
invariant-loop-link l = Paints (λ c b. if list_any (ends_at c) (filter (is_at l.height) (take l.link-index l.links)) then 43 else b) l.initial.line l.line
