use Rattle.lg_region.proofs.Valid.{cut_valid, first_valid}
use Rattle.lg_region.proofs.law.cuts_are_valid.Goals as goal

pub returns : goal.returns
returns c = record { split = cut_valid; first = first_valid }
