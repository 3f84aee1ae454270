use Rattle.std.proofs.Common.{ℕ, List, sym, subst}
use Rattle.lg_script.specs.Commands.{script_views}
use Rattle.lg_run.specs.Answers.{Documents}
use Rattle.lg_run.specs.Inputs.{ExportGiven, AuditGiven}
use Rattle.lg_run.specs.Reads.{given_in}
use Rattle.lg_run.specs.declared.inputs.Inputs.{Inputs}
use Rattle.lg_run.proofs.Writing.{document_written}
use Rattle.lg_run.proofs.top.write_document.Goals as goal

-- the text, as far as it is written
pub returns-in-Export-clause-written : goal.returns-in-Export-clause-written
returns-in-Export-clause-written g c =
    let old = g.O.Sink.written c.args.out.now in
    let new = g.O.Sink.written c.put.new.out in
    subst (λ (i : Inputs). Documents (given_in i) old new c.put.result) (sym c.in-Export.is)
    (document_written old new (ExportGiven c.in-Export.text.items) c.deref.result.now c.put.result c.deref.ensures.value c.put.ensures.written)

-- the line of the document's own bytes
pub returns-in-Audit-clause-written : goal.returns-in-Audit-clause-written
returns-in-Audit-clause-written g c =
    let old = g.O.Sink.written c.args.out.now in
    let new = g.O.Sink.written c.write_audit.new.out in
    let given = λ (bytes : List ℕ). AuditGiven c.in-Audit.dict c.in-Audit.know (script_views c.in-Audit.scripts) bytes in
    subst (λ (i : Inputs). Documents (given_in i) old new c.write_audit.result) (sym c.in-Audit.is)
    (subst (λ (bytes : List ℕ). Documents (given bytes) old new c.write_audit.result) c.deref-in-Audit.ensures.value c.write_audit.ensures.written)
