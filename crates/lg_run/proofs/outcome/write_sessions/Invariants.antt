use Rattle.std.proofs.Common.{◌≤◌, drop}
use Rattle.lg_run.specs.Printers.{printed_text}
use Rattle.lg_run.proofs.Writing.{WrittenTo}
use Rattle.lg_run.proofs.outcome.write_sessions.Given as goal

-- the sessions so far are written, and those that are left are to come
abbrev pub invariant-loop-printed : goal.invariant-loop-printed
invariant-loop-printed g l = record {
  written : WrittenTo (g.O.Sink.written l.fn.out) (g.O.Sink.written l.out) (printed_text l.all) (printed_text (drop l.printed-index l.all));
  later : g.O.Sink.faults l.fn.out ≤ g.O.Sink.faults l.out;
}
