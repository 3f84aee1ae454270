use Rattle.std.proofs.Common.{arith}
use Rattle.lg_fewest.proofs.sentence.firsts_of.Goals as goal

pub expand_key-requires-clause-key : goal.expand_key-requires-clause-key
expand_key-requires-clause-key c = let words = c.requires in let less = c.saturating_sub.ensures in omega arith
