use Rattle.std.proofs.lemmas.Result.{err_from_is_err_and}
use Rattle.lg_run.specs.Documents.{journal_with}
use Rattle.lg_run.specs.Printers.{printed_text}
use Rattle.lg_run.proofs.Writing.{written_then, written_not}
use Rattle.lg_run.proofs.outcome.write_outcome.Goals as goal

-- the answers, and as much of the journal as is written
pub returns-clause-written : goal.returns-clause-written
returns-clause-written g c =
    written_then (g.O.Sink.written c.args.out.now) (g.O.Sink.written c.write_sessions.new.out) (g.O.Sink.written c.write_journal.new.out) (printed_text c.args.outcome.now.kept.items) (journal_with c.args.lines.now c.args.outcome.now.journal) c.write_journal.result
    (rw c.as_slice.ensures.value at c.in_ok-write_sessions.ensures.written) (rw c.items.ensures at c.write_journal.ensures.written)

-- a front part of the answers
pub returns-in_err-write_sessions-clause-written : goal.returns-in_err-write_sessions-clause-written
returns-in_err-write_sessions-clause-written g c =
    rw (err_from_is_err_and c.from_residual.result c.from_residual.ensures.1).1
    (written_not (g.O.Sink.written c.args.out.now) (g.O.Sink.written c.write_sessions.new.out) (printed_text c.args.outcome.now.kept.items) (journal_with c.args.lines.now c.args.outcome.now.journal) (rw c.as_slice.ensures.value at c.in_err-write_sessions.ensures.written))
