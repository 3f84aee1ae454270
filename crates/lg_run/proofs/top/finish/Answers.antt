use Rattle.std.proofs.Common.{sym, subst}
use Rattle.std.specs.Io.KnownBytes.{Appends}
use Rattle.lg_base.specs.Sinks.{AppendsFront}
use Rattle.lg_run.specs.Answers.{last_line}
use Rattle.lg_run.specs.declared.status.Status.{Status}
use Rattle.lg_run.proofs.top.finish.Goals as goal

-- the line of the status, or a front part of it
pub returns-in-Err-Output-clause-line : goal.returns-in-Err-Output-clause-line
returns-in-Err-Output-clause-line g c =
    λ calm. subst (λ (s : Status). Appends (g.E.Sink.written c.args.err.now) (g.E.Sink.written c.fail.new.err) (last_line s)) (sym c.fail.ensures.status) (c.fail.ensures.line calm)

pub returns-in-Err-Output-clause-line_front : goal.returns-in-Err-Output-clause-line_front
returns-in-Err-Output-clause-line_front g c =
    subst (λ (s : Status). AppendsFront (g.E.Sink.written c.args.err.now) (g.E.Sink.written c.fail.new.err) (last_line s)) (sym c.fail.ensures.status) c.fail.ensures.front

pub returns-in-Err-Memory-clause-line : goal.returns-in-Err-Memory-clause-line
returns-in-Err-Memory-clause-line g c =
    λ calm. subst (λ (s : Status). Appends (g.E.Sink.written c.args.err.now) (g.E.Sink.written c.fail-in-Err-Memory.new.err) (last_line s)) (sym c.fail-in-Err-Memory.ensures.status) (c.fail-in-Err-Memory.ensures.line calm)

pub returns-in-Err-Memory-clause-line_front : goal.returns-in-Err-Memory-clause-line_front
returns-in-Err-Memory-clause-line_front g c =
    subst (λ (s : Status). AppendsFront (g.E.Sink.written c.args.err.now) (g.E.Sink.written c.fail-in-Err-Memory.new.err) (last_line s)) (sym c.fail-in-Err-Memory.ensures.status) c.fail-in-Err-Memory.ensures.front
