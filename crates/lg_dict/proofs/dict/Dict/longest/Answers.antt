use Rattle.lg_dict.proofs.Longest.{longest_seen}
use Rattle.lg_dict.proofs.dict.Dict.longest.Goals as goal

pub returns : goal.returns
returns c = longest_seen c.self.inside c.args.self.now c.self.view_is c.self.invariant
