use Rattle.lg_audit.proofs.Cuts.{none_of, cut_last}
use Rattle.lg_audit.proofs.piece.last_piece.Goals as goal

pub returns-in-Some : goal.returns-in-Some
returns-in-Some c = cut_last 32 _ _ c.in-Some.ensures

pub returns-in-None : goal.returns-in-None
returns-in-None c = none_of 32 _ c.in-None.ensures
