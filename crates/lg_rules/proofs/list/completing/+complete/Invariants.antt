use Rattle.std.proofs.Common.{◌≡◌, length, drop}
use Rattle.lg_rules.proofs.Completing.{Owes}
use Rattle.lg_rules.proofs.list.completing.+complete.Given as goal

abbrev pub decreases-complete : goal.decreases-complete
decreases-complete l = length l.rest.now

-- the taken links are as they were, and the links that are left give what is still to be added
abbrev pub invariant-loop-i : goal.invariant-loop-i
invariant-loop-i l = record {
  restored : l.taken.items ≡ l.fn.taken.items;
  owed : Owes l.chosen l.fn.taken.items l.rest l.fn.out.items (drop l.i l.rest) l.out.items;
}
