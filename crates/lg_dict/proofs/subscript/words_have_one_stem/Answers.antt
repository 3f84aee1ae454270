use Rattle.lg_dict.proofs.Points.{one_stem}
use Rattle.lg_dict.proofs.subscript.words_have_one_stem.Goals as goal

pub returns : goal.returns
returns c = one_stem
