-- Each exit: what is left is what a document of these scripts has there.
use Rattle.std.proofs.Common.{sym, ◌∙◌, true≢false}
use Rattle.std.proofs.lemmas.Bool.Decides.{Decides-eqb}
use Rattle.std.proofs.lemmas.Slice.Eq.{slice_eq-Decides}
use Rattle.lg_script.specs.Commands.{script_views}
use Rattle.lg_audit.specs.Answers.{replies_of}
use Rattle.lg_audit.specs.Views.{texts}
use Rattle.lg_audit.proofs.Singles.{when_some, when_none}
use Rattle.lg_audit.proofs.Whole.{no_sessions, no_journal, no_end, shown}
use Rattle.lg_audit.proofs.document.read_document.Goals as goal

pub returns-in_default : goal.returns-in_default
returns-in_default c = no_sessions (script_views c.args.scripts.now) c.args.doc.now (when_none _ _ c.in_ok-replies.field-0 c.in_default.is c.in_ok-replies.ensures)

pub returns-in_default-2 : goal.returns-in_default-2
returns-in_default-2 c =
    let read = when_some _ _ c.in_ok-replies.field-0 _ c.in-Some.is c.in_ok-replies.ensures in
    no_journal (script_views c.args.scripts.now) c.args.doc.now (replies_of c.in-Some.replies.items) c.in-Some.behind_replies.now read
    (when_none _ _ c.in_ok-journal.field-0 c.in_default-2.is c.in_ok-journal.ensures)

pub returns-then-eq : goal.returns-then-eq
returns-then-eq c =
    let read = when_some _ _ c.in_ok-replies.field-0 _ c.in-Some.is c.in_ok-replies.ensures in
    let found = when_some _ _ c.in_ok-journal.field-0 _ c.in-Some-2.is c.in_ok-journal.ensures in
    let end = (slice_eq-Decides Decides-eqb _ _ _ c.eq.ensures).0 c.if-eq.true ∙ c.as_slice.ensures in
    shown (script_views c.args.scripts.now) c.args.doc.now (replies_of c.in-Some.replies.items) c.in-Some.behind_replies.now read
    c.in-Some-2.journal.items c.in-Some-2.behind_journal.now found (texts c.in_ok-usage.usage.items) c.in_ok-usage.last.now c.in_ok-usage.ensures end

pub returns : goal.returns
returns c =
    let read = when_some _ _ c.in_ok-replies.field-0 _ c.in-Some.is c.in_ok-replies.ensures in
    let found = when_some _ _ c.in_ok-journal.field-0 _ c.in-Some-2.is c.in_ok-journal.ensures in
    let same = slice_eq-Decides Decides-eqb _ _ _ c.eq.ensures in
    no_end (script_views c.args.scripts.now) c.args.doc.now (replies_of c.in-Some.replies.items) c.in-Some.behind_replies.now read
    c.in-Some-2.journal.items c.in-Some-2.behind_journal.now found (texts c.in_ok-usage.usage.items) c.in_ok-usage.last.now c.in_ok-usage.ensures
    (λ e. true≢false (sym (same.1 (e ∙ sym c.as_slice.ensures)) ∙ c.if-eq.false))
