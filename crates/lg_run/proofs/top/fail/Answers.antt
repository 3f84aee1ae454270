use Rattle.lg_run.proofs.Writing.{front_put}
use Rattle.lg_run.proofs.top.fail.Goals as goal

-- whether the sink took the line or a part of it
pub returns-clause-front : goal.returns-clause-front
returns-clause-front g c = front_put (g.E.Sink.written c.args.err.now) (g.E.Sink.written c.put.new.self) c.args.line.now c.put.result c.put.ensures.whole c.put.ensures.front
