use Rattle.std.proofs.Common.{take}
use Rattle.lg_disj.specs.Outlines.{all_in}
use Rattle.lg_member.specs.Members.{AddsMembers}
use Rattle.lg_member.proofs.outlines.push_outlines.Given as goal

abbrev pub invariant-loop-outline : goal.invariant-loop-outline
invariant-loop-outline l =
    AddsMembers l.position (all_in (take l.outline-index l.outlines)) l.fn.lefts.items l.fn.rights.items l.lefts.items l.rights.items l.fn.members.items l.members.items
