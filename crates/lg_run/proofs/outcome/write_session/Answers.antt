use Rattle.std.proofs.Common.{ℕ, ◌+◌, ◌++◌, ◌∙◌, List, drop, ap, sym, arith}
use Rattle.std.proofs.lemmas.Result.{err_from_is_err_and}
use Rattle.lg_run.specs.Lines.{joined}
use Rattle.lg_run.specs.Printers.{texts_of}
use Rattle.lg_run.proofs.Writing.{written_more, written_all, written_front, next_piece, none_left}
use Rattle.lg_run.proofs.outcome.write_session.Goals as goal

-- the next piece
pub loop-piece-preserved : goal.loop-piece-preserved
loop-piece-preserved g c =
    let w = c.loop-piece.invariant in record {
      written = written_more (g.O.Sink.written c.put.new.out) c.deref.result.now (joined (texts_of (drop (c.loop-piece.piece-index + 1) c.args.pieces.now))) w.written (next_piece c.args.pieces.now c.loop-piece.piece-index c.piece-item.result c.loop-piece-test.true c.piece-item.is ∙ ap (λ (l : List ℕ). l ++ joined (texts_of (drop (c.loop-piece.piece-index + 1) c.args.pieces.now))) (sym c.deref.ensures.value)) c.in_ok-put.ensures.written;
      later = omega (arith, c.put.ensures.cause.later, w.later);
    }

-- the pieces so far, and a front part of the next
pub returns-in_err-put-clause-written : goal.returns-in_err-put-clause-written
returns-in_err-put-clause-written g c =
    let w = c.loop-piece.invariant in
    rw (err_from_is_err_and c.from_residual.result c.from_residual.ensures.1).1
    (written_front (g.O.Sink.written c.put.new.out) c.deref.result.now (joined (texts_of (drop (c.loop-piece.piece-index + 1) c.args.pieces.now))) w.written (next_piece c.args.pieces.now c.loop-piece.piece-index c.piece-item.result c.loop-piece-test.true c.piece-item.is ∙ ap (λ (l : List ℕ). l ++ joined (texts_of (drop (c.loop-piece.piece-index + 1) c.args.pieces.now))) (sym c.deref.ensures.value)) c.in_err-put.ensures.written)

-- no piece is left
pub returns-clause-written : goal.returns-clause-written
returns-clause-written g c = written_all c.loop-piece.invariant.written (ap (λ l. joined (texts_of l)) (none_left c.args.pieces.now c.loop-piece.piece-index c.loop-piece-test.false))
