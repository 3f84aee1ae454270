use Rattle.std.proofs.Common.{◌≢◌, codes, sym, ◌∙◌, true≢false}
use Rattle.std.proofs.lemmas.Bool.Decides.{Decides-eqb}
use Rattle.std.proofs.lemmas.Slice.Eq.{slice_eq-Decides}
use Rattle.lg_audit.proofs.Singles.{when_some, when_none}
use Rattle.lg_audit.proofs.AnswerForms.{no_more_page, is_more}
use Rattle.lg_audit.proofs.reply.gone_on.Goals as goal

pub returns-in_default-2 : goal.returns-in_default-2
returns-in_default-2 c =
    let same = slice_eq-Decides Decides-eqb _ _ _ c.eq.ensures in
    let something : c.args.told.now ≢ codes "nothing held" = λ e. true≢false (sym (same.1 (e ∙ sym c.as_slice.ensures)) ∙ c.if-eq.false) in
    no_more_page c.args.told.now c.args.text.now something (when_none _ _ c.in_ok-page.field-0 c.in_default-2.is c.in_ok-page.ensures)

pub returns : goal.returns
returns c =
    let same = slice_eq-Decides Decides-eqb _ _ _ c.eq.ensures in
    let something : c.args.told.now ≢ codes "nothing held" = λ e. true≢false (sym (same.1 (e ∙ sym c.as_slice.ensures)) ∙ c.if-eq.false) in
    is_more c.args.told.now c.args.text.now something c.in-Some.version c.in-Some-2.page c.in-Some-2.rest.now c.in-Some.ensures
    (when_some _ _ c.in_ok-page.field-0 _ c.in-Some-2.is c.in_ok-page.ensures)
