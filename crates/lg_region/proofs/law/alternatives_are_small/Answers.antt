use Rattle.lg_region.proofs.SmallFits.{alt_small}
use Rattle.lg_region.proofs.law.alternatives_are_small.Goals as goal

pub returns : goal.returns
returns c = alt_small
