use Rattle.lg_forest.proofs.HalfRows.{half_rows}
use Rattle.lg_forest.proofs.half_set.HalfRowRows.are_rows.Goals as goal

pub returns : goal.returns
returns c = half_rows
