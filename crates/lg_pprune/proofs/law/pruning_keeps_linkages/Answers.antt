use Rattle.lg_pprune.proofs.Chosen.{keeps_linkages}
use Rattle.lg_pprune.proofs.law.pruning_keeps_linkages.Goals as goal

pub returns : goal.returns
returns c = keeps_linkages
