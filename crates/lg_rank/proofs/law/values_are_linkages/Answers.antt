use Rattle.lg_rank.proofs.Ordered.{forests_stand}
use Rattle.lg_rank.proofs.law.values_are_linkages.Goals as goal

pub returns : goal.returns
returns c = forests_stand (record { regions = c.regions_are_cut_once.ensures; sentences = c.sentences_are_cut_once.ensures; valid = c.cuts_are_valid.ensures; parts = c.parts_make_linkages.ensures; keep = c.cuts_keep_order.ensures })
