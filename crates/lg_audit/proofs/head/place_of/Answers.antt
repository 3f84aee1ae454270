use Rattle.lg_audit.proofs.Heads.{place_cut}
use Rattle.lg_audit.proofs.head.place_of.Goals as goal

pub returns-in_default-small_number_of : goal.returns-in_default-small_number_of
returns-in_default-small_number_of c = λ p form is.
    let cut = c.in-Some.ensures in
    c.in_default-small_number_of.ensures.value p.session form.0 (place_cut c.args.text.now _ _ p cut.0 cut.1 form is).0

pub returns-in_default-small_number_of-2 : goal.returns-in_default-small_number_of-2
returns-in_default-small_number_of-2 c = λ p form is.
    let cut = c.in-Some.ensures in
    c.in_default-small_number_of-2.ensures.value p.command form.1 (place_cut c.args.text.now _ _ p cut.0 cut.1 form is).1
