use Rattle.std.proofs.Common.{sym}
use Rattle.lg_region.proofs.opening.last_that_leads.Goals as goal

pub returns-then-gap-eq0 : goal.returns-then-gap-eq0
returns-then-gap-eq0 c = λ z. sym c.last.ensures
