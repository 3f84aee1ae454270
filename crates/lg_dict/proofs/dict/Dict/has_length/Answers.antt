use Rattle.std.proofs.Common.{sym, ◌∙◌}
use Rattle.lg_dict.proofs.Missing.{none_below}
use Rattle.lg_dict.proofs.dict.Dict.has_length.Goals as goal

pub returns : goal.returns
returns c = λ missing. none_below c.self.inside c.args.self.now c.self.view_is c.self.invariant c.args.length (sym c.has.ensures ∙ missing)
