use Rattle.std.proofs.Common.{refl}
use Rattle.lg_idiom.proofs.Choosing.{none_so_far}
use Rattle.lg_idiom.proofs.taken.Taken.new.Goals as goal

pub returns : goal.returns
returns c = none_so_far _ c.new.ensures.items refl
