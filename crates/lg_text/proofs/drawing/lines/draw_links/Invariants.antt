use Rattle.std.proofs.Common.{◌≤◌, length, drop}
use Rattle.std.specs.List.{filter}
use Rattle.lg_text.specs.Diagrams.{spans, first_shown, is_at}
use Rattle.lg_text.specs.Painted.{Paints}
use Rattle.lg_text.proofs.drawing.lines.draw_links.Given as goal

-- the last links are drawn
abbrev pub invariant-loop-rest : goal.invariant-loop-rest
invariant-loop-rest l = record {
  within : l.rest ≤ length l.links;
  drawn : Paints (λ c b. first_shown c (filter (spans c) (filter (is_at l.height) (drop l.rest l.links))) b) l.initial.line l.line;
}

abbrev pub decreases-loop-rest : goal.decreases-loop-rest
decreases-loop-rest l = l.rest
