use Rattle.std.proofs.Common.{refl}
use Rattle.lg_region.proofs.opening.origin_of.Goals as goal

pub last_that_leads-requires : goal.last_that_leads-requires
last_that_leads-requires c = c.requires.gap.1.known.rlist

pub returns-clause-begins : goal.returns-clause-begins
returns-clause-begins c =
    let is = c.requires.gap.1 in
    record { left_is = refl; llist_is = refl; last_is = c.last_that_leads.ensures; some = is.some; few = c.requires.few; lead = is.lead; rlead = is.rlead; known = is.known }
