use Rattle.std.proofs.Common.{map, take}
use Rattle.lg_disj.specs.Outlines.{disjunct_on}
use Rattle.lg_member.specs.Members.{AddsLines}
use Rattle.lg_member.proofs.outlines.push_lines.Given as goal

abbrev pub invariant-loop-line : goal.invariant-loop-line
invariant-loop-line l = AddsLines l.position (map (disjunct_on l.outline) (take l.line-index l.line-items)) l.lefts l.rights l.fn.members.items l.members.items
