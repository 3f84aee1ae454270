use Rattle.lg_audit.proofs.Cuts.{none_of, cut_first}
use Rattle.lg_audit.proofs.piece.cut_at.Goals as goal

pub returns-in-Some : goal.returns-in-Some
returns-in-Some c = cut_first c.args.byte _ _ c.in-Some.ensures

pub returns-in-None : goal.returns-in-None
returns-in-None c = none_of c.args.byte _ c.in-None.ensures
