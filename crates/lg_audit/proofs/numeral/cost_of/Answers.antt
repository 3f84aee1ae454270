-- Behind a minus sign stands a size above 0.
use Rattle.std.proofs.Common.{sym, ◌∙◌, arith}
use Rattle.lg_audit.proofs.numeral.cost_of.Goals as goal
use Rattle.lg_audit.proofs.numeral.cost_of.Goals.{in_default-via-in-Some-thousandths_of-2+else-size-gt0, in_default-via-in_default}
use Rattle.lg_audit.proofs.PrintedCosts.{after_sign, same_thousandths}

pub returns-in_default : goal.returns-in_default
returns-in_default c = λ z within is.
    let told = after_sign c.args.text.now c.in-Some.digits.now c.in-Some.ensures z within is in
    elim c.in_default.branch [
      | in_default-via-in-Some-thousandths_of-2+else-size-gt0 w ↦ let same = same_thousandths _ told.0 w.in-Some-thousandths_of-2.ensures.bound told.2 (sym w.in-Some-thousandths_of-2.ensures.value ∙ told.3) in omega (arith, same, told.1)
      | in_default-via-in_default w ↦ w.in_default.ensures.value told.0 told.2 told.3
    ]
