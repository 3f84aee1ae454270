use Rattle.lg_region.proofs.Made.{has_linkage, whole_has_linkage}
use Rattle.lg_region.proofs.law.alternatives_decide.Goals as goal

pub returns-clause-region : goal.returns-clause-region
returns-clause-region c = has_linkage

pub returns-clause-whole : goal.returns-clause-whole
returns-clause-whole c = whole_has_linkage
