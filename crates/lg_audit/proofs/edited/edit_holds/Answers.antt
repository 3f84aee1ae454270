use Rattle.std.proofs.Common.{◌↔◌, IfOk, IsTrue, sym, subst}
use Rattle.lg_edit.specs.Edits.{edit_view}
use Rattle.lg_audit.specs.Answers.{reply_of}
use Rattle.lg_audit.specs.Grounds.{basis_in}
use Rattle.lg_audit.specs.Tests.{EditHolds}
use Rattle.lg_audit.specs.declared.shown.ShownReply.{ShownReply as Shown}
use Rattle.lg_audit.proofs.edited.edit_holds.Goals as goal

pub returns-in-Refused-clause-holds : goal.returns-in-Refused-clause-holds
returns-in-Refused-clause-holds c =
    subst (λ (r : Shown). IfOk c.refused_holds.result (λ holds. IsTrue holds ↔ EditHolds (basis_in c.args.basis.now) c.args.place (edit_view c.args.edit.now) (reply_of r)))
    (sym c.in-Refused.is) c.refused_holds.ensures.holds
