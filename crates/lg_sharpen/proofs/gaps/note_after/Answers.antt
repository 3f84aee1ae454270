use Rattle.lg_sharpen.proofs.Rows.{noted_again}
use Rattle.lg_sharpen.proofs.gaps.note_after.Goals as goal

pub returns-then-is_last : goal.returns-then-is_last
returns-then-is_last c = λ is. noted_again c.args.last c.args.way c.args.ways.now (c.is_last.ensures c.if-is_last.true) is
