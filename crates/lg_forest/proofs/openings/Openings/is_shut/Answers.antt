use Rattle.std.proofs.Common.{Contains, subst}
use Rattle.lg_forest.proofs.openings.Openings.is_shut.Goals as goal

pub returns-in-Some : goal.returns-in-Some
returns-in-Some c = λ shut. (c.in-Some.opening.now, subst (λ z. Contains z (c.args.origin.now, c.in-Some.opening.now)) c.self.view_is c.in-Some.ensures.found, c.is_shut.ensures shut)
