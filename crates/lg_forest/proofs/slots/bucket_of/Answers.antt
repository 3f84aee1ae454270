use Rattle.std.proofs.Common.{arith}
use Rattle.lg_forest.proofs.Slotting.{masked, power_some}
use Rattle.lg_forest.proofs.slots.bucket_of.Goals as goal

pub overflow_sub-result : goal.overflow_sub-result
overflow_sub-result c = let some = power_some c.args.count c.requires in omega arith

pub returns-clause-value : goal.returns-clause-value
returns-clause-value c = masked c.args.spread c.args.count c.requires
