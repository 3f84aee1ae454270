-- Each exit: what is left of the line is what a line of this form has there.
use Rattle.std.proofs.Common.{codes}
use Rattle.lg_audit.proofs.Cuts.{step}
use Rattle.lg_audit.proofs.reading.page_end.Goals as goal

pub returns-in_default : goal.returns-in_default
returns-in_default c = λ e form is. c.in_default.ensures.value e.shown _ form.shown is

pub returns-in_default-named_number : goal.returns-in_default-named_number
returns-in_default-named_number c = λ e form is.
    let one = step (codes "page shown ") _ _ _ _ e.shown c.in-Some.ensures.bound form.shown c.in-Some.ensures.value is in
    c.in_default-named_number.ensures.value e.examined _ form.examined one

pub returns-in_default-named_number-2 : goal.returns-in_default-named_number-2
returns-in_default-named_number-2 c = λ e form is.
    let one = step (codes "page shown ") _ _ _ _ e.shown c.in-Some.ensures.bound form.shown c.in-Some.ensures.value is in
    let two = step (codes "examined ") _ _ _ _ e.examined c.in-Some-named_number.ensures.bound form.examined c.in-Some-named_number.ensures.value one in
    c.in_default-named_number-2.ensures.value e.next _ form.next two

pub returns-in_default-is_end : goal.returns-in_default-is_end
returns-in_default-is_end c = λ e form is.
    let one = step (codes "page shown ") _ _ _ _ e.shown c.in-Some.ensures.bound form.shown c.in-Some.ensures.value is in
    let two = step (codes "examined ") _ _ _ _ e.examined c.in-Some-named_number.ensures.bound form.examined c.in-Some-named_number.ensures.value one in
    let three = step (codes "next ") _ _ _ _ e.next c.in-Some-named_number-2.ensures.bound form.next c.in-Some-named_number-2.ensures.value two in
    c.in_default-is_end.ensures e.end three
