use Rattle.std.proofs.Common.{length}
use Rattle.lg_token.proofs.Cutting.{Leads}
use Rattle.lg_token.proofs.cuts.cut_chunk.Given as goal

-- whatever cuts the middle, cuts the chunk, with what was cut off around it
abbrev pub invariant-loop-after : goal.invariant-loop-after
invariant-loop-after l = Leads l.view l.initial' l.chunk l.before.items l.middle l.after.items

abbrev pub decreases-loop-after : goal.decreases-loop-after
decreases-loop-after l = length l.middle
