use Rattle.std.proofs.Common.{◌∙◌, sym}
use Rattle.lg_gram.proofs.Same.{connector_Decides}
use Rattle.lg_disj.proofs.choices.is_one.Goals as goal

pub returns : goal.returns
returns c = λ h. (connector_Decides c.args.a.now c.args.b.now).0 (sym c.eq.ensures ∙ h)
