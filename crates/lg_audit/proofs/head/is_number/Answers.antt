use Rattle.std.proofs.Common.{arith}
use Rattle.lg_audit.proofs.Heads.{same_number}
use Rattle.lg_audit.proofs.head.is_number.Goals as goal

pub returns-in-Some : goal.returns-in-Some
returns-in-Some c = same_number c.args.text.now c.in-Some.found c.args.number c.in-Some.ensures.value c.in-Some.ensures.bound (omega arith)
