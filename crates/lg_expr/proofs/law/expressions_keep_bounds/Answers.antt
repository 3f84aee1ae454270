use Rattle.lg_expr.proofs.EntryBounds.{entry_bounded}
use Rattle.lg_expr.proofs.law.expressions_keep_bounds.Goals as goal

pub returns : goal.returns
returns c = entry_bounded c.parts_are_written.ensures.written
