use Rattle.std.proofs.Common.{ap, ◌∙◌}
use Rattle.std.specs.FinMap.{get}
use Rattle.lg_dict.specs.Dictionary.{Dictionary}
use Rattle.lg_dict.proofs.view.View.get.Goals as goal

pub returns : goal.returns
returns c = c.looked_up.ensures ∙ ap (λ (d : Dictionary). get d.words c.args.word.now) c.self.view_is
