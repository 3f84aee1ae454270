use Rattle.std.proofs.Common.{None, sym, subst}
use Rattle.lg_script.specs.Commands.{goes_on}
use Rattle.lg_audit.specs.Answers.{reply_of}
use Rattle.lg_audit.specs.Walks.{ComesTo}
use Rattle.lg_audit.specs.declared.shown.ShownReply.{ShownReply as Reply}
use Rattle.lg_audit.specs.declared.verdict.Verdict.TheVariants.{Right}
use Rattle.lg_audit.proofs.Goings.{nothing_so}
use Rattle.lg_audit.proofs.listed.nothing_more.Goals as goal

pub returns-in-NothingHeld : goal.returns-in-NothingHeld
returns-in-NothingHeld c = λ basis p version. subst (λ (r : Reply). ComesTo basis p None goes_on (reply_of r) version (Right None)) (sym c.in-NothingHeld.is) (nothing_so basis p version)
