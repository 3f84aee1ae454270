use Rattle.std.proofs.lemmas.Slice.Eq.{slice_eq-Decides}
use Rattle.lg_member.proofs.Same.{same_connector}
use Rattle.lg_member.proofs.made.is_same.Goals as goal

pub returns : goal.returns
returns c = slice_eq-Decides same_connector c.args.a.now c.args.b.now c.eq.result c.eq.ensures
