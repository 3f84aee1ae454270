use Rattle.std.proofs.Common.{◌≡◌, ◌+◌, ◌==◌, length, take}
use Rattle.std.specs.List.{filter}
use Rattle.lg_text.specs.Diagrams.{greatest, start}
use Rattle.lg_text.specs.Texts.{label_text}
use Rattle.lg_text.proofs.drawing.columns.room_for.Given as goal

-- the room for the links so far
abbrev pub invariant-loop-link : goal.invariant-loop-link
invariant-loop-link l = l.start ≡ greatest (λ m. start l.starts m.left + (length (label_text l.g m) + 3)) l.least (filter (λ m. m.right == l.position) (take l.link-index l.link-items))
