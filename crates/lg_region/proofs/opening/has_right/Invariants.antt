use Rattle.std.proofs.Common.{◌≤◌, ◌-◌}
use Rattle.lg_region.specs.Groups.{IsNextLed}
use Rattle.lg_region.proofs.Splitting.{NoneUpTo}
use Rattle.lg_region.proofs.opening.has_right.Given as goal

abbrev pub invariant-loop-number : goal.invariant-loop-number
invariant-loop-number l = record {
  later : l.group.from ≤ l.number;
  led : IsNextLed l.lists l.gap.lead l.group.word l.number l.number;
  none : NoneUpTo l.lists l.gap l.group l.number;
}

abbrev pub decreases-loop-number : goal.decreases-loop-number
decreases-loop-number l = l.group.to - l.number
