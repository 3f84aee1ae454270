use Rattle.lg_export.proofs.Reach.{level_reaches}
use Rattle.lg_export.proofs.law.levels_reach_spellings.Goals as goal

pub returns : goal.returns
returns c = λ formulas a reach. level_reaches formulas reach a
