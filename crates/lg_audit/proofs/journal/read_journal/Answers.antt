use Rattle.std.proofs.lemmas.Result.{IfOk-weaker}
use Rattle.lg_audit.proofs.Edits.{no_count, counted}
use Rattle.lg_audit.proofs.journal.read_journal.Goals as goal

pub returns-in_default-journal_count : goal.returns-in_default-journal_count
returns-in_default-journal_count c = let cut = c.in-Some.ensures in no_count c.args.text.now c.in-Some.line.now c.in-Some.rest.now cut.0 cut.1 c.in_default-journal_count.ensures

pub returns : goal.returns
returns c =
    let cut = c.in-Some.ensures in
    IfOk-weaker c.read_edits.result _ _
    (counted c.args.text.now c.in-Some.line.now c.in-Some.rest.now cut.0 cut.1 c.in-Some-journal_count.count c.in-Some-journal_count.ensures (λ f. f.0.items) (λ f. f.1.now))
    c.read_edits.ensures
