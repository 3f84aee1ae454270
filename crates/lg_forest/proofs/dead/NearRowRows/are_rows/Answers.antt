use Rattle.lg_forest.proofs.NearKeys.{near_rows}
use Rattle.lg_forest.proofs.dead.NearRowRows.are_rows.Goals as goal

pub returns : goal.returns
returns c = near_rows
