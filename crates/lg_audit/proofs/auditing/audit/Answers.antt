use Rattle.std.proofs.Common.{◌≡◌, List, ap, ◌∙◌, arith}
use Rattle.std.specs.List.{sum_by}
use Rattle.std.proofs.lemmas.Result.{IfOk-weaker}
use Rattle.lg_script.specs.Commands.{script_views}
use Rattle.lg_audit.specs.Answers.{replies_of}
use Rattle.lg_audit.specs.Audits.{Inputs, IsAudit, shown_by}
use Rattle.lg_audit.specs.Documents.{ShownDocument}
use Rattle.lg_audit.specs.Judged.{IsJudged}
use Rattle.lg_audit.specs.Lines.{ShownReply}
use Rattle.lg_audit.specs.Replies.{Basis}
use Rattle.lg_audit.proofs.Audited.{all_formed, audit_by}
use Rattle.lg_audit.proofs.Singles.{when_some}
use Rattle.lg_audit.proofs.Tallies.{shown_fit}
use Rattle.lg_audit.proofs.auditing.audit.Goals as goal

pub judged-requires-clause-few : goal.judged-requires-clause-few
judged-requires-clause-few c =
    let d : ShownDocument = c.in-Some.document in
    let shows = when_some _ _ c.in_ok-document.field-0 c.in-Some.document c.in-Some.is c.in_ok-document.ensures in
    let fit = shown_fit (script_views c.args.scripts.now) c.args.doc.now d (all_formed (script_views c.args.scripts.now) d.replies shows.replies) shows in
    let same : replies_of c.as_slice-2.result.now ≡ d.replies = ap replies_of c.as_slice-2.ensures.value ∙ ap (λ (x : ShownDocument). x.replies) c.document.view_is in
    let count = ap (sum_by (sum_by shown_by)) same in
    omega (arith, fit, count)

pub returns : goal.returns
returns c =
    let d : ShownDocument = c.in-Some.document in
    let shows = when_some _ _ c.in_ok-document.field-0 c.in-Some.document c.in-Some.is c.in_ok-document.ensures in
    let inputs : Inputs = record { base = c.args.base.now; know = c.args.know.now; scripts = script_views c.args.scripts.now } in
    let basis : Basis = record { base = c.args.base.now; know = c.args.know.now; scripts = script_views c.args.scripts.now; journal = c.as_slice.result.now } in
    let replies : List (List ShownReply) = replies_of c.as_slice-2.result.now in
    let same_journal = c.as_slice.ensures.value ∙ ap (λ (x : ShownDocument). x.journal) c.document.view_is in
    let same_replies : replies ≡ d.replies = ap replies_of c.as_slice-2.ensures.value ∙ ap (λ (x : ShownDocument). x.replies) c.document.view_is in
    IfOk-weaker c.judged.result (IsJudged basis replies) (IsAudit inputs c.args.doc.now) (audit_by inputs c.args.doc.now d shows c.as_slice.result.now replies same_journal same_replies) c.judged.ensures
