use Rattle.lg_export.proofs.Lowest.{alternatives_at_least}
use Rattle.lg_export.proofs.law.no_spelling_is_lower.Goals as goal

pub returns : goal.returns
returns c = λ t a is. alternatives_at_least a 0 t is
