use Rattle.std.proofs.Common.{◌≤◌, ◌+◌, ◌*◌, length}
use Rattle.lg_gram.specs.Limits.{SIDE}
use Rattle.lg_rules.specs.Partners.{HasThoseBefore}
use Rattle.lg_rules.proofs.list.candidates.push_places.Given as goal

abbrev pub invariant-loop-lplace : goal.invariant-loop-lplace
invariant-loop-lplace l = record {
  those : HasThoseBefore l.chosen l.out.items l.left l.right l.lplace 0;
  few : length l.out.items ≤ length l.fn.out.items + SIDE * l.lplace;
}
