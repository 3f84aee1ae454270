use Rattle.std.proofs.Common.{sym, ◌∙◌, true≢false}
use Rattle.lg_edit.specs.Edits.{edit_view}
use Rattle.lg_audit.specs.Answers.{reply_of}
use Rattle.lg_audit.specs.Grounds.{basis_in}
use Rattle.lg_audit.proofs.Comings.{is_edited, not_so}
use Rattle.lg_audit.proofs.verdict.edited.Goals as goal

pub returns-then-holds-clause-comes : goal.returns-then-holds-clause-comes
returns-then-holds-clause-comes c = λ h version kept.
    is_edited (basis_in c.args.basis.now) c.args.place h (edit_view c.args.edit.now) version c.args.held (reply_of c.args.reply.now) kept (c.in_ok-holds.ensures.holds.0 c.if-holds.true)

pub returns-clause-comes : goal.returns-clause-comes
returns-clause-comes c = λ h version kept.
    not_so (basis_in c.args.basis.now) c.args.place h (edit_view c.args.edit.now) version (reply_of c.args.reply.now) (λ holds. true≢false (sym (c.in_ok-holds.ensures.holds.1 holds) ∙ c.if-holds.false))
