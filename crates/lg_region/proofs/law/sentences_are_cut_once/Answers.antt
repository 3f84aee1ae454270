use Rattle.lg_region.proofs.Whole.{whole_complete, whole_sound_all, whole_unique}
use Rattle.lg_region.proofs.law.sentences_are_cut_once.Goals as goal

pub returns : goal.returns
returns c = record { some = whole_complete; one = whole_unique; sound = whole_sound_all }
