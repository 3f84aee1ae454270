-- The parts that were read are those of the number.
use Rattle.std.proofs.Common.{sym, ◌∙◌, arith}
use Rattle.lg_audit.proofs.PrintedCosts.{same_size}
use Rattle.lg_audit.proofs.numeral.thousandths_of.Goals as goal

pub returns-then-whole-clause-value : goal.returns-then-whole-clause-value
returns-then-whole-clause-value c = λ n within is.
    let whole = c.in-Some.ensures in
    let part = c.in-Some-part_of.ensures in
    let sizes = same_size c.args.text.now c.saturating_sub.result c.in-Some.whole c.in-Some-part_of.part n c.saturating_sub.ensures whole.bound part.bound
    (sym c.split_at.ensures.front ∙ whole.value) (sym c.split_at.ensures.back ∙ part.value) within is in
    omega (arith, sizes.0)

pub returns-then-size-gt-MOST-clause-value : goal.returns-then-size-gt-MOST-clause-value
returns-then-size-gt-MOST-clause-value c = λ n within is.
    let whole = c.in-Some.ensures in
    let part = c.in-Some-part_of.ensures in
    let sizes = same_size c.args.text.now c.saturating_sub.result c.in-Some.whole c.in-Some-part_of.part n c.saturating_sub.ensures whole.bound part.bound
    (sym c.split_at.ensures.front ∙ whole.value) (sym c.split_at.ensures.back ∙ part.value) within is in
    omega (arith, sizes.0, sizes.1)
