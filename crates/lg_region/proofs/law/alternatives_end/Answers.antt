use Rattle.std.proofs.Common.{◌==◌, refl}
use Rattle.lg_region.proofs.Opened.{ends_from}
use Rattle.lg_region.proofs.law.alternatives_end.Goals as goal

pub returns : goal.returns
returns c = λ n gap g b are known is (a, (i, s), h). ends_from n gap g (gap.llist == 0) is refl are known.llist known.led b (a, (i, s, h))
