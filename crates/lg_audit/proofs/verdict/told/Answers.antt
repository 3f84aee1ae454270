use Rattle.std.proofs.Common.{sym, subst}
use Rattle.lg_script.specs.Commands.{asks}
use Rattle.lg_audit.specs.Answers.{reply_of}
use Rattle.lg_audit.specs.Walks.{ComesTo}
use Rattle.lg_audit.specs.declared.shown.ShownReply.{ShownReply as Reply}
use Rattle.lg_audit.specs.declared.verdict.Verdict.TheVariants.{Right}
use Rattle.lg_audit.proofs.Goings.{told_so, not_told}
use Rattle.lg_audit.proofs.verdict.told.Goals as goal

pub returns-in-At : goal.returns-in-At
returns-in-At c = λ basis p h version kept. subst (λ (r : Reply). ComesTo basis p h asks (reply_of r) version (Right c.args.held)) (sym c.in-At.is) (told_so basis p h version c.args.held _ kept)

pub returns : goal.returns
returns c = λ basis p h version kept. not_told basis p h version c.args.reply.now c.in_default.not-At
