use Rattle.std.proofs.Common.{refl}
use Rattle.lg_forest.proofs.Slotting.{power_twice}
use Rattle.lg_forest.proofs.slots.wider.Goals as goal

pub returns-then-count-eq0-clause-power : goal.returns-then-count-eq0-clause-power
returns-then-count-eq0-clause-power c = (4, refl)

pub returns-else-count-eq0-clause-power : goal.returns-else-count-eq0-clause-power
returns-else-count-eq0-clause-power c = power_twice c.args.count (c.requires.power c.if-count-eq0.false)
