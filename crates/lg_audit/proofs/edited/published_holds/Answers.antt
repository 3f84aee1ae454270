use Rattle.std.proofs.Common.{sym, ap, ◌∙◌, true≢false}
use Rattle.std.proofs.lemmas.Bool.{false≢true}
use Rattle.lg_edit.specs.Edits.{edit_view}
use Rattle.lg_audit.specs.Replies.{dictionary_at}
use Rattle.lg_audit.specs.Grounds.{basis_in}
use Rattle.lg_audit.proofs.Tested.{made_so}
use Rattle.lg_audit.proofs.edited.published_holds.Goals as goal

pub returns-then-not-stands-clause-holds : goal.returns-then-not-stands-clause-holds
returns-then-not-stands-clause-holds c = (λ e. absurd (false≢true e), λ made. absurd (true≢false (sym (c.stands.ensures.1 made.stands) ∙ c.if-not-stands.true)))

pub returns-clause-holds : goal.returns-clause-holds
returns-clause-holds c =
    let basis = basis_in c.args.basis.now in
    let here = c.in_ok-bring.ensures in
    made_so basis (edit_view c.args.edit.now) c.args.version c.bring.new.dated.view (here.dated.is ∙ ap (dictionary_at basis) here.version)
    c.args.place c.check.result c.is_ok.result (c.stands.ensures.0 c.if-not-stands.false) c.check.ensures c.is_ok.ensures.value
