use Rattle.std.proofs.Common.{sym, subst}
use Rattle.lg_script.specs.Commands.{script_views}
use Rattle.lg_audit.specs.Audits.{Inputs}
use Rattle.lg_run.specs.Audits.{IsAuditLine}
use Rattle.lg_run.specs.Inputs.{AuditGiven}
use Rattle.lg_run.proofs.Writing.{document_written}
use Rattle.lg_run.proofs.top.write_audit.Goals as goal

-- the line, as far as it is written
pub returns-in-Ok-clause-written : goal.returns-in-Ok-clause-written
returns-in-Ok-clause-written g c =
    let scripts = script_views c.args.scripts.now in
    let inputs : Inputs = record { base = c.args.dict.now; know = c.args.know.now; scripts = scripts } in
    let is : IsAuditLine inputs c.args.document.now c.deref.result.now = subst (IsAuditLine inputs c.args.document.now) (sym c.deref.ensures.value) c.in-Ok.ensures in
    document_written (g.O.Sink.written c.args.out.now) (g.O.Sink.written c.put.new.out) (AuditGiven c.args.dict.now c.args.know.now scripts c.args.document.now) c.deref.result.now c.put.result is c.put.ensures.written
