use Rattle.std.proofs.Common.{rules}
use Rattle.lg_audit.proofs.Numerals.{prints, read_number}
use Rattle.lg_audit.proofs.numeral.number_of.Goals as goal

pub returns-then-not-begins_well-clause-value : goal.returns-then-not-begins_well-clause-value
returns-then-not-begins_well-clause-value c = λ n small is. let told = prints _ n small is in search rules

pub returns-clause-value : goal.returns-clause-value
returns-clause-value c =
    let well = c.begins_well.ensures.0 c.if-not-begins_well.false in
    read_number _ _ well c.digits_of.ensures.bound c.digits_of.ensures.value
