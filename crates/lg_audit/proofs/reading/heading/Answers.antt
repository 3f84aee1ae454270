-- Each exit: what is left of the line is what a line of this form has there.
use Rattle.std.proofs.Common.{codes, sym, ◌∙◌, subst}
use Rattle.lg_base.specs.Costs.{cost_text}
use Rattle.lg_audit.specs.Pieces.{HasNoBlank}
use Rattle.lg_audit.proofs.Cuts.{step, behind_same, same_first, has_blank}
use Rattle.lg_audit.proofs.PrintedCosts.{cost_solid}
use Rattle.lg_audit.proofs.reading.heading.Goals as goal

pub returns-in_default-named_number : goal.returns-in_default-named_number
returns-in_default-named_number c = λ number sums fits form is.
    let one = step (codes "linkage ") _ _ _ _ number c.in-Some.ensures.bound fits c.in-Some.ensures.value is in
    c.in_default-named_number.ensures.value sums.unused _ form.unused one

pub returns-in_default-behind : goal.returns-in_default-behind
returns-in_default-behind c = λ number sums fits form is.
    let one = step (codes "linkage ") _ _ _ _ number c.in-Some.ensures.bound fits c.in-Some.ensures.value is in
    let two = step (codes "unused ") _ _ _ _ sums.unused c.in-Some-named_number.ensures.bound form.unused c.in-Some-named_number.ensures.value one in
    c.in_default-behind.ensures _ two

pub returns-in_default-first_piece : goal.returns-in_default-first_piece
returns-in_default-first_piece c = λ number sums fits form is.
    let one = step (codes "linkage ") _ _ _ _ number c.in-Some.ensures.bound fits c.in-Some.ensures.value is in
    let two = step (codes "unused ") _ _ _ _ sums.unused c.in-Some-named_number.ensures.bound form.unused c.in-Some-named_number.ensures.value one in
    let three = behind_same (codes "cost ") _ _ _ c.in-Some-behind.ensures two in
    has_blank (cost_text sums.cost) _ (subst HasNoBlank three c.in_default-first_piece.ensures)

pub returns-in_default-cost_of : goal.returns-in_default-cost_of
returns-in_default-cost_of c = λ number sums fits form is.
    let one = step (codes "linkage ") _ _ _ _ number c.in-Some.ensures.bound fits c.in-Some.ensures.value is in
    let two = step (codes "unused ") _ _ _ _ sums.unused c.in-Some-named_number.ensures.bound form.unused c.in-Some-named_number.ensures.value one in
    let three = behind_same (codes "cost ") _ _ _ c.in-Some-behind.ensures two in
    let cut = c.in-Some-first_piece.ensures in
    let four = same_first _ (cost_text sums.cost) _ _ cut.0 (cost_solid sums.cost form.cost) (sym cut.1 ∙ three) in
    c.in_default-cost_of.ensures sums.cost form.cost four.0

pub returns-in_default-behind-2 : goal.returns-in_default-behind-2
returns-in_default-behind-2 c = λ number sums fits form is.
    let one = step (codes "linkage ") _ _ _ _ number c.in-Some.ensures.bound fits c.in-Some.ensures.value is in
    let two = step (codes "unused ") _ _ _ _ sums.unused c.in-Some-named_number.ensures.bound form.unused c.in-Some-named_number.ensures.value one in
    let three = behind_same (codes "cost ") _ _ _ c.in-Some-behind.ensures two in
    let cut = c.in-Some-first_piece.ensures in
    let four = same_first _ (cost_text sums.cost) _ _ cut.0 (cost_solid sums.cost form.cost) (sym cut.1 ∙ three) in
    c.in_default-behind-2.ensures _ four.1

pub returns-in_default-number_of : goal.returns-in_default-number_of
returns-in_default-number_of c = λ number sums fits form is.
    let one = step (codes "linkage ") _ _ _ _ number c.in-Some.ensures.bound fits c.in-Some.ensures.value is in
    let two = step (codes "unused ") _ _ _ _ sums.unused c.in-Some-named_number.ensures.bound form.unused c.in-Some-named_number.ensures.value one in
    let three = behind_same (codes "cost ") _ _ _ c.in-Some-behind.ensures two in
    let cut = c.in-Some-first_piece.ensures in
    let four = same_first _ (cost_text sums.cost) _ _ cut.0 (cost_solid sums.cost form.cost) (sym cut.1 ∙ three) in
    let five = behind_same (codes "length ") _ _ _ c.in-Some-behind-2.ensures four.1 in
    c.in_default-number_of.ensures.value sums.length form.length five
