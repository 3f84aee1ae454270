use Rattle.lg_gram.proofs.GoodPairs.{good_by_pairs}
use Rattle.lg_gram.proofs.Pairs.{pairs_decide as by_pairs}
use Rattle.lg_gram.proofs.law.pairs_decide.Goals as goal

pub returns-clause-links : goal.returns-clause-links
returns-clause-links c = by_pairs

pub returns-clause-good : goal.returns-clause-good
returns-clause-good c = good_by_pairs
