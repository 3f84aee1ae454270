use Rattle.std.proofs.Common.{codes}
use Rattle.lg_audit.proofs.Cuts.{step}
use Rattle.lg_audit.proofs.head.edit.Goals as goal

pub returns-in_default-place_of : goal.returns-in_default-place_of
returns-in_default-place_of c = λ n p fits form is.
    c.in_default-place_of.ensures p form (step (codes "edit ") _ _ _ _ n c.in-Some.ensures.bound fits c.in-Some.ensures.value is)
