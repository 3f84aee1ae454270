use Rattle.std.proofs.Common.{rules}
use Rattle.lg_sharpen.proofs.Rows.{noted_row}
use Rattle.lg_sharpen.proofs.gaps.note.Goals as goal

pub returns-then-position-rows : goal.returns-then-position-rows
returns-then-position-rows c =
    noted_row c.args.position c.args.left c.args.right _ _ c.args.rows.now c.index-rows-position.result c.lower.new.row c.if-position-rows.true c.index-rows-position.is c.lower.ensures (search rules) (search rules)
