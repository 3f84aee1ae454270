use Rattle.std.proofs.Common.{[], ◌++◌, refl, sym, ap}
use Rattle.std.proofs.lemmas.List.{append-nil}
use Rattle.lg_run.proofs.Writing.{written_none, written_more, written_front, written_so_far}
use Rattle.lg_run.proofs.top.put_line.Goals as goal

-- the pieces so far, and a front part of the next
pub returns-in_err-put-clause-front : goal.returns-in_err-put-clause-front
returns-in_err-put-clause-front g c =
    let rest = c.args.name.now ++ c.args.back.now in
    written_front (g.E.Sink.written c.put.new.self) c.args.front.now rest (written_none (g.E.Sink.written c.args.err.now) (c.args.front.now ++ rest)) refl c.in_err-put.ensures.front

pub returns-in_err-put-2-clause-front : goal.returns-in_err-put-2-clause-front
returns-in_err-put-2-clause-front g c =
    let rest = c.args.name.now ++ c.args.back.now in
    let first = written_more (g.E.Sink.written c.put.new.self) c.args.front.now rest (written_none (g.E.Sink.written c.args.err.now) (c.args.front.now ++ rest)) refl c.in_ok-put.ensures.whole in
    written_front (g.E.Sink.written c.put-2.new.self) c.as_bytes.result.now c.args.back.now first (ap (λ z. z ++ c.args.back.now) (sym c.as_bytes.ensures.value)) c.in_err-put-2.ensures.front

pub returns-in_err-put-3-clause-front : goal.returns-in_err-put-3-clause-front
returns-in_err-put-3-clause-front g c =
    let rest = c.args.name.now ++ c.args.back.now in
    let first = written_more (g.E.Sink.written c.put.new.self) c.args.front.now rest (written_none (g.E.Sink.written c.args.err.now) (c.args.front.now ++ rest)) refl c.in_ok-put.ensures.whole in
    let second = written_more (g.E.Sink.written c.put-2.new.self) c.as_bytes.result.now c.args.back.now first (ap (λ z. z ++ c.args.back.now) (sym c.as_bytes.ensures.value)) c.in_ok-put-2.ensures.whole in
    written_front (g.E.Sink.written c.put-3.new.self) c.args.back.now [] second (sym (append-nil c.args.back.now)) c.in_err-put-3.ensures.front

-- all of them
pub returns-clause-front : goal.returns-clause-front
returns-clause-front g c =
    let rest = c.args.name.now ++ c.args.back.now in
    let first = written_more (g.E.Sink.written c.put.new.self) c.args.front.now rest (written_none (g.E.Sink.written c.args.err.now) (c.args.front.now ++ rest)) refl c.in_ok-put.ensures.whole in
    let second = written_more (g.E.Sink.written c.put-2.new.self) c.as_bytes.result.now c.args.back.now first (ap (λ z. z ++ c.args.back.now) (sym c.as_bytes.ensures.value)) c.in_ok-put-2.ensures.whole in
    written_so_far (written_more (g.E.Sink.written c.put-3.new.self) c.args.back.now [] second (sym (append-nil c.args.back.now)) c.in_ok-put-3.ensures.whole)
