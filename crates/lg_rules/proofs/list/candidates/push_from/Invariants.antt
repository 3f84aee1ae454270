use Rattle.std.proofs.Common.{◌≤◌, ◌+◌, ◌*◌, length}
use Rattle.lg_gram.specs.Limits.{SIDE}
use Rattle.lg_rules.specs.Partners.{HasThoseBefore}
use Rattle.lg_rules.proofs.list.candidates.push_from.Given as goal

abbrev pub invariant-loop-right : goal.invariant-loop-right
invariant-loop-right l = record {
  those : HasThoseBefore l.chosen l.out.items l.left l.right 0 0;
  few : length l.out.items ≤ length l.fn.out.items + SIDE * SIDE * l.right;
}
