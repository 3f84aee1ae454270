use Rattle.lg_run.proofs.RightRuns.{documents_hold}
use Rattle.lg_run.proofs.law.documents_hold.Goals as goal

pub returns : goal.returns
returns c = documents_hold c.scripts_have_single_lines.ensures c.scripts_keep_bounds.ensures c.tokens_lie_in_order.ensures c.answers_are_shown.ensures.lines
