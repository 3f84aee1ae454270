use Rattle.lg_forest.proofs.Decide.{decided}
use Rattle.lg_forest.proofs.law.keys_are_decided.Goals as goal

pub returns : goal.returns
returns c = λ positions lists numbers.
    decided positions lists c.cuts_are_valid.ensures c.alternatives_decide.ensures.region c.alternatives_decide.ensures.whole (c.numbers_tell_lists_apart.ensures positions lists numbers)
