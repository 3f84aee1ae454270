use Rattle.lg_run.proofs.AuditedRuns.{documents_are_audited}
use Rattle.lg_run.proofs.law.documents_are_audited.Goals as goal

pub returns : goal.returns
returns c =
    documents_are_audited c.scripts_have_single_lines.ensures c.scripts_keep_bounds.ensures c.tokens_lie_in_order.ensures c.answers_are_shown.ensures.lines c.answers_are_shown.ensures.form
    c.read_dictionaries_are_exportable.ensures c.edited_dictionaries_are_exportable.ensures
