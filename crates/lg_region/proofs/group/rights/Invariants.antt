use Rattle.std.proofs.Common.{◌<◌, ◌≤◌, ◌-◌}
use Rattle.lg_region.specs.Groups.{IsNextLed, IsRightOf}
use Rattle.lg_region.specs.Ways.{AreExactly}
use Rattle.lg_region.proofs.group.rights.Given as goal

abbrev pub invariant-loop-number : goal.invariant-loop-number
invariant-loop-number l = record {
  later : l.group.from ≤ l.number;
  led : IsNextLed l.lists l.gap.lead l.group.word l.number l.number;
  rights : AreExactly l.rights.items (λ r. IsRightOf l.lists l.gap l.group r × (r.disjunct < l.number));
}

abbrev pub decreases-loop-number : goal.decreases-loop-number
decreases-loop-number l = l.group.to - l.number
