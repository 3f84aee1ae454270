use Rattle.lg_answer.proofs.Wholes.{idioms_stay}
use Rattle.lg_answer.proofs.law.idioms_stay_whole.Goals as goal

pub returns : goal.returns
returns c =
    idioms_stay c.taken_are_chains.ensures c.taken_are_laid_over.ensures c.taken_are_one.ensures c.chains_are_whole.ensures c.joints_join_neighbours.ensures c.plain_linkages_stay.ensures
