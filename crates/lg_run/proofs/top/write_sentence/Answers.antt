use Rattle.std.proofs.Common.{sym, subst}
use Rattle.lg_run.specs.Documents.{DocumentIs}
use Rattle.lg_run.specs.Inputs.{OneGiven}
use Rattle.lg_run.proofs.Writing.{document_written}
use Rattle.lg_run.proofs.top.write_sentence.Goals as goal

-- the document, as far as it is written
pub returns-in-Ok-clause-written : goal.returns-in-Ok-clause-written
returns-in-Ok-clause-written g c =
    let document : DocumentIs c.args.setup c.args.dict.now c.args.sentence.now c.deref.result.now =
    subst (DocumentIs c.args.setup c.args.dict.now c.args.sentence.now) (sym c.deref.ensures.value) c.in-Ok.ensures in
    document_written (g.O.Sink.written c.args.out.now) (g.O.Sink.written c.put.new.out) (OneGiven c.args.setup c.args.dict.now c.args.sentence.now) c.deref.result.now c.put.result document c.put.ensures.written
