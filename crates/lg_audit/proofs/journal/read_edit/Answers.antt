use Rattle.std.proofs.Common.{arith}
use Rattle.lg_audit.proofs.Edits.{no_edit, other_edit, this_edit}
use Rattle.lg_audit.proofs.journal.read_edit.Goals as goal

pub returns-in_default-edit : goal.returns-in_default-edit
returns-in_default-edit c = let cut = c.in-Some.ensures in no_edit c.args.number (omega arith) c.args.text.now c.in-Some.line.now c.in-Some.rest.now cut.0 cut.1 c.in_default-edit.ensures

pub returns-then-found-number : goal.returns-then-found-number
returns-then-found-number c =
    let cut = c.in-Some.ensures in
    other_edit c.args.number (omega arith) c.args.text.now c.in-Some.line.now c.in-Some.rest.now cut.0 cut.1 c.in-Some-edit.found c.in-Some-edit.place c.in-Some-edit.ensures
    (λ same. omega (arith, same, c.if-found-number.true))

pub returns : goal.returns
returns c =
    let cut = c.in-Some.ensures in
    this_edit c.args.number (omega arith) c.args.text.now c.in-Some.line.now c.in-Some.rest.now cut.0 cut.1 c.in-Some-edit.found c.in-Some-edit.place c.in-Some-edit.ensures
    (omega (arith, c.if-found-number.false))
