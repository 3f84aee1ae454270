use Rattle.std.proofs.Common.{sym, ap, ◌∙◌}
use Rattle.std.proofs.lemmas.Bool.{false≢true}
use Rattle.lg_edit.specs.Edits.{edit_view}
use Rattle.lg_audit.specs.Replies.{dictionary_at}
use Rattle.lg_audit.specs.Grounds.{basis_in}
use Rattle.lg_audit.proofs.Tested.{not_refused, refused_so}
use Rattle.lg_audit.proofs.edited.refused_holds.Goals as goal

pub returns-in-Ok-clause-holds : goal.returns-in-Ok-clause-holds
returns-in-Ok-clause-holds c =
    let basis = basis_in c.args.basis.now in
    let here = c.in_ok-bring.ensures in (
      λ e. absurd (false≢true e),
      λ tells. absurd (not_refused basis (edit_view c.args.edit.now) c.args.version c.bring.new.dated.view (here.dated.is ∙ ap (dictionary_at basis) here.version) c.args.text.now (sym c.in-Ok.ensures) tells),
    )

pub returns-in-Err-clause-holds : goal.returns-in-Err-clause-holds
returns-in-Err-clause-holds c =
    let basis = basis_in c.args.basis.now in
    let here = c.in_ok-bring.ensures in
    refused_so basis (edit_view c.args.edit.now) c.args.version c.bring.new.dated.view (here.dated.is ∙ ap (dictionary_at basis) here.version) c.args.text.now c.in-Err.cause c.tells_cause.result
    (sym c.in-Err.ensures) c.tells_cause.ensures
