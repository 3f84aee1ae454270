use Rattle.std.proofs.Common.{codes}
use Rattle.lg_audit.proofs.Cuts.{step}
use Rattle.lg_audit.proofs.head.bound.Goals as goal

pub returns-in_default-bound_of : goal.returns-in_default-bound_of
returns-in_default-bound_of c = λ v bound fits form is.
    c.in_default-bound_of.ensures bound form (step (codes "version ") _ _ _ _ v c.in-Some.ensures.bound fits c.in-Some.ensures.value is)
