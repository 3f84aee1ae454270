use Rattle.lg_region.proofs.Alike.{regions_alike}
use Rattle.lg_region.proofs.law.regions_begin_alike.Goals as goal

pub returns : goal.returns
returns c = regions_alike
