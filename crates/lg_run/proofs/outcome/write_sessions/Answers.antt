use Rattle.std.proofs.Common.{ap, arith}
use Rattle.std.proofs.lemmas.Result.{err_from_is_err_and}
use Rattle.lg_run.specs.Printers.{printed_text}
use Rattle.lg_run.proofs.Writing.{written_more, written_all, written_front, next_printed, none_left}
use Rattle.lg_run.proofs.outcome.write_sessions.Goals as goal

-- the next session
pub loop-printed-preserved : goal.loop-printed-preserved
loop-printed-preserved g c =
    let w = c.loop-printed.invariant in record {
      written = written_more (g.O.Sink.written c.write_session.new.out) _ _ w.written (next_printed c.args.all.now c.loop-printed.printed-index c.printed-item.result c.loop-printed-test.true c.printed-item.is) (rw c.as_slice.ensures.value at c.in_ok-write_session.ensures.written);
      later = omega (arith, c.write_session.ensures.cause.later, w.later);
    }

-- the sessions so far, and a front part of the next
pub returns-in_err-write_session-clause-written : goal.returns-in_err-write_session-clause-written
returns-in_err-write_session-clause-written g c =
    let w = c.loop-printed.invariant in
    rw (err_from_is_err_and c.from_residual.result c.from_residual.ensures.1).1
    (written_front (g.O.Sink.written c.write_session.new.out) _ _ w.written (next_printed c.args.all.now c.loop-printed.printed-index c.printed-item.result c.loop-printed-test.true c.printed-item.is) (rw c.as_slice.ensures.value at c.in_err-write_session.ensures.written))

-- no session is left
pub returns-clause-written : goal.returns-clause-written
returns-clause-written g c = written_all c.loop-printed.invariant.written (ap printed_text (none_left c.args.all.now c.loop-printed.printed-index c.loop-printed-test.false))
