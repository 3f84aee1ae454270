use Rattle.std.proofs.Common.{arith}
use Rattle.lg_audit.proofs.Numerals.{overflow}
use Rattle.lg_audit.proofs.numeral.digits_of.Goals as goal

pub returns-in_default-clause-value : goal.returns-in_default-clause-value
returns-in_default-clause-value c = λ all.
    overflow c.args.text.now c.loop-byte.byte-index c.loop-byte.number (omega arith) c.loop-byte.invariant.value (c.loop-byte.invariant.rest all) c.in_default.ensures
