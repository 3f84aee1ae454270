use Rattle.lg_rank.proofs.Cuts.{cuts_keep_order}
use Rattle.lg_rank.proofs.law.cuts_keep_order.Goals as goal

pub returns : goal.returns
returns c = cuts_keep_order c.regions_are_cut_once.ensures c.sentences_are_cut_once.ensures
