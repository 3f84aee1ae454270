use Rattle.std.proofs.Common.{◌-◌}
use Rattle.lg_region.specs.Groups.{IsNextLed}
use Rattle.lg_region.specs.Openings.{GroupsOfWord}
use Rattle.lg_region.proofs.opening.push_groups.Given as goal

abbrev pub invariant-loop-from : goal.invariant-loop-from
invariant-loop-from l = record {
  led : IsNextLed l.lists l.gap.lead l.word l.from l.from;
  added : GroupsOfWord l.lists l.gap l.word l.from l.fn.groups.items l.groups.items;
}

abbrev pub decreases-loop-from : goal.decreases-loop-from
decreases-loop-from l = l.count - l.from
