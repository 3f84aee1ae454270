use Rattle.lg_region.proofs.Numbers.{tell_apart}
use Rattle.lg_region.proofs.law.numbers_tell_lists_apart.Goals as goal

pub returns : goal.returns
returns c = tell_apart
