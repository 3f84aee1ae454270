use Rattle.lg_audit.proofs.Choices.{cost_is, some_right, some_left}
use Rattle.lg_audit.proofs.reading.choice_of.Goals as goal

pub returns-in_default-cost_of : goal.returns-in_default-cost_of
returns-in_default-cost_of c = λ seen form is.
    let cut = c.in-Some.ensures in
    c.in_default-cost_of.ensures seen.cost form.cost (cost_is c.args.used.now seen form is _ _ cut.0 cut.1).1

pub returns-in_default-last_piece : goal.returns-in_default-last_piece
returns-in_default-last_piece c = λ seen form is.
    let cut = c.in-Some.ensures in
    some_right c.args.used.now seen form is _ _ cut.0 cut.1 c.in_default-last_piece.ensures

pub returns-in_default-last_piece-2 : goal.returns-in_default-last_piece-2
returns-in_default-last_piece-2 c = λ seen form is.
    let cut = c.in-Some.ensures in
    let cut' = c.in-Some-last_piece.ensures in
    some_left c.args.used.now seen form is _ _ _ _ cut.0 cut.1 cut'.0 cut'.1 c.in_default-last_piece-2.ensures
