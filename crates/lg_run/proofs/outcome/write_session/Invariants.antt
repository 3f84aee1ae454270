use Rattle.std.proofs.Common.{◌≤◌, drop}
use Rattle.lg_run.specs.Lines.{joined}
use Rattle.lg_run.specs.Printers.{texts_of}
use Rattle.lg_run.proofs.Writing.{WrittenTo}
use Rattle.lg_run.proofs.outcome.write_session.Given as goal

-- the pieces so far are written, and those that are left are to come
abbrev pub invariant-loop-piece : goal.invariant-loop-piece
invariant-loop-piece g l = record {
  written : WrittenTo (g.O.Sink.written l.fn.out) (g.O.Sink.written l.out) (joined (texts_of l.pieces)) (joined (texts_of (drop l.piece-index l.pieces)));
  later : g.O.Sink.faults l.fn.out ≤ g.O.Sink.faults l.out;
}
