-- Each exit: what is left of the line is what a line of this form has there.
use Rattle.std.proofs.Common.{codes}
use Rattle.lg_audit.proofs.Cuts.{step, step_small}
use Rattle.lg_audit.proofs.reading.failure.Goals as goal

pub returns-in_default-named_small : goal.returns-in_default-named_small
returns-in_default-named_small c = λ number v fits form is.
    let one = step (codes "fail ") _ _ _ _ number c.in-Some.ensures.bound fits c.in-Some.ensures.value is in
    c.in_default-named_small.ensures.value v.rule _ form.rule one

pub returns-in_default-named_small-2 : goal.returns-in_default-named_small-2
returns-in_default-named_small-2 c = λ number v fits form is.
    let one = step (codes "fail ") _ _ _ _ number c.in-Some.ensures.bound fits c.in-Some.ensures.value is in
    let two = step_small (codes "rule ") _ _ _ _ v.rule c.in-Some-named_small.ensures.bound form.rule c.in-Some-named_small.ensures.value one in
    c.in_default-named_small-2.ensures.value v.left _ form.left two

pub returns-in_default-small_number_of : goal.returns-in_default-small_number_of
returns-in_default-small_number_of c = λ number v fits form is.
    let one = step (codes "fail ") _ _ _ _ number c.in-Some.ensures.bound fits c.in-Some.ensures.value is in
    let two = step_small (codes "rule ") _ _ _ _ v.rule c.in-Some-named_small.ensures.bound form.rule c.in-Some-named_small.ensures.value one in
    let three = step_small (codes "link ") _ _ _ _ v.left c.in-Some-named_small-2.ensures.bound form.left c.in-Some-named_small-2.ensures.value two in
    c.in_default-small_number_of.ensures.value v.right form.right three
