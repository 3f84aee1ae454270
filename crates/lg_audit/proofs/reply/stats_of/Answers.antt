use Rattle.std.proofs.Common.{sym, ◌∙◌, true≢false}
use Rattle.lg_audit.proofs.AnswerForms.{no_stats, some_stats}
use Rattle.lg_audit.proofs.reply.stats_of.Goals as goal

pub returns-then-not-starts_with : goal.returns-then-not-starts_with
returns-then-not-starts_with c =
    let cut = c.in-Some.ensures in
    no_stats c.args.text.now c.in-Some.line.now c.in-Some.rest.now cut.0 cut.1 (λ e. true≢false (sym e ∙ sym c.starts_with.ensures.value ∙ c.if-not-starts_with.true))

pub returns : goal.returns
returns c =
    let cut = c.in-Some.ensures in
    some_stats c.args.text.now c.in-Some.line.now c.in-Some.rest.now cut.0 cut.1 (sym c.starts_with.ensures.value ∙ c.if-not-starts_with.false)
