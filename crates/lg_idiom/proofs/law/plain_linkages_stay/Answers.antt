use Rattle.lg_idiom.proofs.Staying.{plain_linkages_stay}
use Rattle.lg_idiom.proofs.law.plain_linkages_stay.Goals as goal

pub returns : goal.returns
returns c = plain_linkages_stay
