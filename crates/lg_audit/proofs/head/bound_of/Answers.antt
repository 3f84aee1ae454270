use Rattle.lg_audit.proofs.Heads.{no_bound}
use Rattle.lg_audit.proofs.head.bound_of.Goals as goal

pub returns-in_default-behind : goal.returns-in_default-behind
returns-in_default-behind c = λ bound form is. no_bound c.args.text.now c.in_default.ensures c.in_default-behind.ensures bound is
