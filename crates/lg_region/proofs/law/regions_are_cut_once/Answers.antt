use Rattle.lg_region.proofs.Empty.{region_complete, region_sound, region_unique}
use Rattle.lg_region.proofs.law.regions_are_cut_once.Goals as goal

pub returns : goal.returns
returns c = record { some = region_complete; one = region_unique; sound = region_sound }
