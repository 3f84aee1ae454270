use Rattle.std.proofs.Common.{sym, subst}
use Rattle.lg_run.specs.Inputs.{GenGiven}
use Rattle.lg_run.specs.MadeRuns.{IsMadeDocument}
use Rattle.lg_run.proofs.Writing.{document_written}
use Rattle.lg_run.proofs.made.write_made.Goals as goal

-- the document, as far as it is written
pub returns-in-Ok-clause-written : goal.returns-in-Ok-clause-written
returns-in-Ok-clause-written g c =
    let document = subst (IsMadeDocument c.args.seed c.args.words c.args.sentences) (sym c.deref.ensures.value) c.in-Ok.ensures in
    document_written (g.O.Sink.written c.args.out.now) (g.O.Sink.written c.put.new.out) (GenGiven c.args.seed c.args.words c.args.sentences) c.deref.result.now c.put.result document c.put.ensures.written
