use Rattle.std.proofs.Common.{◌≤◌, ◌*◌, length}
use Rattle.lg_gram.specs.Limits.{SIDE, LINKAGE_POSITIONS}
use Rattle.lg_rules.specs.Partners.{HasThoseBefore}
use Rattle.lg_rules.proofs.list.candidates.candidates.Given as goal

abbrev pub invariant-loop-left : goal.invariant-loop-left
invariant-loop-left l = record {
  those : HasThoseBefore l.chosen l.out.items l.left 0 0 0;
  few : length l.out.items ≤ LINKAGE_POSITIONS * (SIDE * SIDE) * l.left;
}
