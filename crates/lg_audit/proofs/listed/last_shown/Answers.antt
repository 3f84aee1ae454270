use Rattle.lg_audit.proofs.Goings.{last_pushed}
use Rattle.lg_audit.proofs.listed.last_shown.Goals as goal

pub returns-in-Some : goal.returns-in-Some
returns-in-Some c = λ before is. last_pushed before c.args.shown.items _ c.in-Some.linkage c.in-Some.ensures.items
