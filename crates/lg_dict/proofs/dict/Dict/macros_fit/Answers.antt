use Rattle.lg_dict.proofs.Fits.{fit_seen}
use Rattle.lg_dict.proofs.dict.Dict.macros_fit.Goals as goal

pub returns : goal.returns
returns c = fit_seen c.self.inside c.args.self.now c.self.view_is c.self.invariant
