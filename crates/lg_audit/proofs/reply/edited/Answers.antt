use Rattle.lg_audit.proofs.AnswerForms.{no_edit}
use Rattle.lg_audit.proofs.reply.edited.Goals as goal

pub returns-in_default-refusal : goal.returns-in_default-refusal
returns-in_default-refusal c = no_edit c.args.told.now c.args.text.now c.in_default.ensures c.in_default-refusal.ensures
