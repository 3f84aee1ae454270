-- What stands behind the words is the name.
use Rattle.std.proofs.Common.{codes, sym, true≢false}
use Rattle.lg_audit.proofs.Refusals.{same_behind}
use Rattle.lg_audit.proofs.cause.tells_macro.Goals as goal

pub returns-in-Some : goal.returns-in-Some
returns-in-Some c = same_behind c.args.text.now (codes "unknown macro ") c.in-Some.rest.now c.args.name.now c.eq.result c.in-Some.ensures c.eq.ensures

pub returns-in-None : goal.returns-in-None
returns-in-None c = (λ e. absurd (true≢false (sym e)), λ is. absurd (c.in-None.ensures c.args.name.now is))
