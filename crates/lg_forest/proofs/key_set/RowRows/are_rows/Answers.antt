use Rattle.lg_forest.proofs.KeyRows.{key_rows}
use Rattle.lg_forest.proofs.key_set.RowRows.are_rows.Goals as goal

pub returns : goal.returns
returns c = key_rows
