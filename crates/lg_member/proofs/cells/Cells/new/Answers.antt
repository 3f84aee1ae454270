use Rattle.lg_member.proofs.Celling.{empty_table}
use Rattle.lg_member.proofs.cells.Cells.new.Goals as goal

pub returns-clause-empty : goal.returns-clause-empty
returns-clause-empty g c = empty_table c.args.words c.in_ok-cells.cells.items c.in_ok-cells.ensures.none
