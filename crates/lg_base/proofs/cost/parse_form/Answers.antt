-- Each arm is one of the forms, by the place of the point.
use Rattle.std.proofs.Common.{sym, subst}
use Rattle.lg_base.specs.Costs.{ReadsForm}
use Rattle.lg_base.proofs.CostReading.{refused_whole, read_part, refused_front, refused_back, read_both}
use Rattle.lg_base.proofs.cost.parse_form.Goals as goal

pub returns-in_err-whole-in-None : goal.returns-in_err-whole-in-None
returns-in_err-whole-in-None c =
    subst (ReadsForm _) (sym c.from_residual.ensures) (refused_whole _ c.in-None.ensures c.in_err-whole-in-None.ensures.value)

pub returns-in-Some-eq0 : goal.returns-in-Some-eq0
returns-in-Some-eq0 c = read_part _ _ c.in-Some-eq0.field-0-test c.in-Some-eq0.ensures _ c.parse_part.ensures.value

pub returns-in_err-whole-in-Some : goal.returns-in_err-whole-in-Some
returns-in_err-whole-in-Some c =
    subst (ReadsForm _) (sym c.from_residual-in_err-whole-in-Some.ensures)
    (refused_front _ _ c.in-Some.at-test.1 c.in-Some.ensures c.in_err-whole-in-Some.ensures.value)

pub returns-in_err-part-in-Some : goal.returns-in_err-part-in-Some
returns-in_err-part-in-Some c =
    subst (ReadsForm _) (sym c.from_residual-in_err-part-in-Some.ensures)
    (refused_back _ _ c.in-Some.at-test.1 c.in-Some.ensures c.in_err-part-in-Some.ensures.value)

pub returns-in_ok-part-in-Some : goal.returns-in_ok-part-in-Some
returns-in_ok-part-in-Some c =
    read_both _ _ c.in-Some.at-test.1 c.in-Some.ensures _ _ c.in_ok-whole-in-Some.ensures.value c.in_ok-part-in-Some.ensures.value
