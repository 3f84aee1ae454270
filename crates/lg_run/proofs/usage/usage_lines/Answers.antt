use Rattle.std.proofs.Common.{◌≡◌}
use Rattle.std.proofs.lemmas.Result.{IfOk-weaker}
use Rattle.lg_usage.specs.Totals.{usage_text}
use Rattle.lg_run.specs.Documents.{AreUsageLines}
use Rattle.lg_run.specs.Printers.{together}
use Rattle.lg_run.proofs.Shares.{lines_asked}
use Rattle.lg_run.proofs.usage.usage_lines.Goals as goal

-- the text of the totals
pub returns : goal.returns
returns c = λ firsts have.
    let totals = c.in_ok-totals.totals in
    IfOk-weaker c.text.result (λ text. text.items ≡ usage_text totals) (λ lines. AreUsageLines c.args.asked (together firsts) lines.items)
    (λ lines e. lines_asked c.args.asked (together firsts) lines.items totals c.if-not-asked.false (c.in_ok-totals.ensures firsts (have c.if-not-asked.false)) e) c.text.ensures.text
