use Rattle.std.proofs.Common.{subst}
use Rattle.lg_gram.specs.Fits.{AllFit}
use Rattle.lg_dict.specs.Dictionary.{Dictionary, macros_of}
use Rattle.lg_dict.proofs.Changed.{fit_changed}
use Rattle.lg_dict.proofs.view.View.macros_fit.Goals as goal

pub returns : goal.returns
returns c =
    subst (λ (d : Dictionary). AllFit (macros_of d)) c.self.view_is
    (fit_changed c.self.inside.base.now c.self.inside.changes c.self.invariant.laid c.macros_fit.ensures)
