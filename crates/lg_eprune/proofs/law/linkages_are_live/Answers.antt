use Rattle.lg_eprune.proofs.Linked.{linked_live}
use Rattle.lg_eprune.proofs.law.linkages_are_live.Goals as goal

pub returns : goal.returns
returns c = λ words positions are g good i d is. linked_live words positions are g good i d is
