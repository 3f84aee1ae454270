-- Each exit: what is left of the line is what a line of this form has there.
use Rattle.std.proofs.Common.{codes, sym, ◌∙◌, subst, []}
use Rattle.lg_audit.specs.Pieces.{HasNoBlank}
use Rattle.lg_audit.proofs.Cuts.{step_small, has_blank, same_first}
use Rattle.lg_audit.proofs.reading.link.Goals as goal

pub returns-in_default-named_small : goal.returns-in_default-named_small
returns-in_default-named_small c = λ l form is.
    let one = step_small (codes "link ") _ _ _ _ l.link.left c.in-Some.ensures.bound form.left c.in-Some.ensures.value is in
    c.in_default-named_small.ensures.value l.link.right _ form.right one

pub returns-in_default-first_piece : goal.returns-in_default-first_piece
returns-in_default-first_piece c = λ l form is.
    let one = step_small (codes "link ") _ _ _ _ l.link.left c.in-Some.ensures.bound form.left c.in-Some.ensures.value is in
    let two = step_small [] _ _ _ _ l.link.right c.in-Some-named_small.ensures.bound form.right c.in-Some-named_small.ensures.value one in
    has_blank l.label _ (subst HasNoBlank two c.in_default-first_piece.ensures)

pub returns-in_default-named_small-2 : goal.returns-in_default-named_small-2
returns-in_default-named_small-2 c = λ l form is.
    let one = step_small (codes "link ") _ _ _ _ l.link.left c.in-Some.ensures.bound form.left c.in-Some.ensures.value is in
    let two = step_small [] _ _ _ _ l.link.right c.in-Some-named_small.ensures.bound form.right c.in-Some-named_small.ensures.value one in
    let cut = c.in-Some-first_piece.ensures in
    let three = same_first _ l.label _ _ cut.0 form.label.solid (sym cut.1 ∙ two) in
    c.in_default-named_small-2.ensures.value l.link.lplace _ form.lplace three.1

pub returns-in_default-small_number_of : goal.returns-in_default-small_number_of
returns-in_default-small_number_of c = λ l form is.
    let one = step_small (codes "link ") _ _ _ _ l.link.left c.in-Some.ensures.bound form.left c.in-Some.ensures.value is in
    let two = step_small [] _ _ _ _ l.link.right c.in-Some-named_small.ensures.bound form.right c.in-Some-named_small.ensures.value one in
    let cut = c.in-Some-first_piece.ensures in
    let three = same_first _ l.label _ _ cut.0 form.label.solid (sym cut.1 ∙ two) in
    let four = step_small [] _ _ _ _ l.link.lplace c.in-Some-named_small-2.ensures.bound form.lplace c.in-Some-named_small-2.ensures.value three.1 in
    c.in_default-small_number_of.ensures.value l.link.rplace form.rplace four
