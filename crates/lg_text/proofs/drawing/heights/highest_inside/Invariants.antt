use Rattle.std.proofs.Common.{◌≡◌, ◌≤◌, take}
use Rattle.std.specs.List.{filter}
use Rattle.lg_gram.specs.Linkages.{link_length}
use Rattle.lg_text.specs.Diagrams.{greatest, height, is_inside}
use Rattle.lg_text.proofs.drawing.heights.highest_inside.Given as goal

-- the highest of the links so far that lie inside
abbrev pub invariant-loop-i : goal.invariant-loop-i
invariant-loop-i l = record {
  value : l.highest ≡ greatest (height l.links) 0 (filter (is_inside l.link) (take l.i l.links));
  low : l.highest ≤ link_length l.link;
}
