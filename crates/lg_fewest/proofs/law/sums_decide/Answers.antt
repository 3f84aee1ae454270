use Rattle.lg_fewest.proofs.Sums.{decided}
use Rattle.lg_fewest.proofs.law.sums_decide.Goals as goal

pub returns : goal.returns
returns c = λ positions lists are. decided positions lists c.cuts_are_valid.ensures c.alternatives_decide.ensures.region c.alternatives_decide.ensures.whole (c.numbers_tell_lists_apart.ensures positions lists are)
