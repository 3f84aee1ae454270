use Rattle.std.proofs.Common.{subst}
use Rattle.lg_dict.specs.Dictionary.{Dictionary, NoWordIsLonger}
use Rattle.lg_dict.proofs.view.View.longest.Goals as goal

pub returns : goal.returns
returns c = subst (λ (d : Dictionary). NoWordIsLonger d c.self.inside.longest) c.self.view_is c.self.invariant.longest
