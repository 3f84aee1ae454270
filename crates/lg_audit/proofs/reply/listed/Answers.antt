use Rattle.lg_audit.specs.Views.{text_of}
use Rattle.lg_audit.proofs.Singles.{when_some, when_none}
use Rattle.lg_audit.proofs.AnswerForms.{is_beyond, no_listed, is_listed}
use Rattle.lg_audit.proofs.reply.listed.Goals as goal

pub returns-in-Some : goal.returns-in-Some
returns-in-Some c = is_beyond c.args.told.now c.args.text.now c.in-Some.version c.in-Some.bound c.in-Some.ensures

pub returns-in_default-2 : goal.returns-in_default-2
returns-in_default-2 c =
    no_listed c.args.told.now c.args.text.now c.in_default.ensures (text_of c.stats_of.result.0) c.stats_of.result.1.now c.stats_of.ensures
    (when_none _ _ c.in_ok-page.field-0 c.in_default-2.is c.in_ok-page.ensures)

pub returns : goal.returns
returns c =
    is_listed c.args.told.now c.args.text.now c.in_default.ensures (text_of c.stats_of.result.0) c.stats_of.result.1.now c.stats_of.ensures
    c.in-Some-version.version c.in-Some-2.page c.in-Some-2.rest.now c.in-Some-version.ensures (when_some _ _ c.in_ok-page.field-0 _ c.in-Some-2.is c.in_ok-page.ensures)
