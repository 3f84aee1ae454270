use Rattle.lg_region.proofs.Parting.{parts_make}
use Rattle.lg_region.proofs.law.parts_make_linkages.Goals as goal

pub returns : goal.returns
returns c = parts_make
