use Rattle.std.proofs.Common.{◌≤◌, ◌+◌, length}
use Rattle.lg_rules.specs.Partners.{HasThoseBefore}
use Rattle.lg_rules.proofs.list.candidates.push_partners.Given as goal

abbrev pub invariant-loop-rplace : goal.invariant-loop-rplace
invariant-loop-rplace l = record {
  those : HasThoseBefore l.chosen l.out.items l.left l.right l.lplace l.rplace;
  few : length l.out.items ≤ length l.fn.out.items + l.rplace;
}
