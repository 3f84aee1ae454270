use Rattle.std.proofs.Common.{Contains, subst}
use Rattle.lg_eprune.proofs.Listed.{adds_none, adds_one}
use Rattle.lg_eprune.proofs.seen.add_to.Goals as goal

pub returns-then-is_in : goal.returns-then-is_in
returns-then-is_in c = adds_none c.args.row.now.items c.args.connector.now (subst (λ z. Contains z c.args.connector.now) c.deref.ensures.value (c.is_in.ensures.0 c.if-is_in.true))

pub returns : goal.returns
returns c = adds_one c.args.row.now.items c.push.new.self.items c.args.connector.now c.in_ok-push.ensures.items
