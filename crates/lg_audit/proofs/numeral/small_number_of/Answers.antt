use Rattle.std.proofs.Common.{arith}
use Rattle.lg_audit.proofs.Numerals.{no_other}
use Rattle.lg_audit.proofs.numeral.small_number_of.Goals as goal

pub returns-in_default-clause-value : goal.returns-in_default-clause-value
returns-in_default-clause-value c = λ n small is. no_other _ _ n c.in-Some.ensures.value is c.in-Some.ensures.bound (omega arith)
