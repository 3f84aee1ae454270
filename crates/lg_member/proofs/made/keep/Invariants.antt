use Rattle.std.proofs.Common.{suc, ◌-◌, length}
use Rattle.lg_member.proofs.made.keep.Given as goal

abbrev pub decreases-loop-made : goal.decreases-loop-made
decreases-loop-made l = suc l.number - length l.made.items
