use Rattle.std.proofs.Common.{arith}
use Rattle.lg_audit.proofs.Refusals.{same_count}
use Rattle.lg_audit.proofs.cause.tells_small.Goals as goal

pub returns-in-Some : goal.returns-in-Some
returns-in-Some c = let told = c.in-Some.ensures in same_count c.args.text.now c.args.front.now c.in-Some.found c.args.number told.1 (omega (arith, told.0)) (omega arith)
