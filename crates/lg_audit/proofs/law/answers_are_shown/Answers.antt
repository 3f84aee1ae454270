use Rattle.lg_audit.proofs.ShownForms.{answers_form}
use Rattle.lg_audit.proofs.ShownTexts.{reply_is}
use Rattle.lg_audit.proofs.law.answers_are_shown.Goals as goal

pub returns : goal.returns
returns c = record { lines = reply_is; form = answers_form }
