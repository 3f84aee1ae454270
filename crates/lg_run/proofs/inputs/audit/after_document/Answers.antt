use Rattle.std.proofs.Common.{[], map, string_bytes, refl, sym}
use Rattle.std.proofs.lemmas.List.{append-nil}
use Rattle.std.proofs.lemmas.Option.{IfSome_then}
use Rattle.lg_script.specs.Commands.{script_views}
use Rattle.lg_run.specs.Inputs.{Followed, ScriptsInput, EditsRead, AuditGiven, given, accepted}
use Rattle.lg_run.specs.Stops.{stop_status, stop_line}
use Rattle.lg_run.proofs.Readings.{asks_none, asks_first, asks_next, comes_next, stops_first}
use Rattle.lg_run.proofs.ScriptLists.{one_within}
use Rattle.lg_run.proofs.inputs.audit.after_document.Goals as goal

-- the scripts, and then nothing
pub returns-in-Ok-clause-names : goal.returns-in-Ok-clause-names
returns-in-Ok-clause-names g c =
    let names = map string_bytes c.args.scripts.now in
    let old = g.F.Files.asked c.args.files.now in
    let new = g.F.Files.asked c.read_scripts.new.files in
    let scripts = script_views c.in-Ok.scripts in
    IfSome_then (g.F.Files.contents c.args.files.now) c.in-Ok.ensures.told
    (λ k h. asks_next (Followed (ScriptsInput k names) (EditsRead names)) (λ all. given (AuditGiven c.args.dict c.args.know all c.args.document.items)) old new new scripts h (one_within k c.exactly_one_script.ensures.one names)
    (asks_none (given (AuditGiven c.args.dict c.args.know scripts c.args.document.items)) new new refl))

pub returns-in-Ok-clause-told : goal.returns-in-Ok-clause-told
returns-in-Ok-clause-told g c =
    let names = map string_bytes c.args.scripts.now in
    let old = g.F.Files.asked c.args.files.now in
    let new = g.F.Files.asked c.read_scripts.new.files in
    let scripts = script_views c.in-Ok.scripts in
    IfSome_then (g.F.Files.contents c.args.files.now) c.in-Ok.ensures.told
    (λ k h. comes_next (Followed (ScriptsInput k names) (EditsRead names)) (λ all. given (AuditGiven c.args.dict c.args.know all c.args.document.items)) old new new scripts h (accepted (AuditGiven c.args.dict c.args.know scripts c.args.document.items))
    (record { names = []; read = (refl, refl); grown = sym (append-nil new) }))

-- the scripts were not had
pub returns-in-Err-clause-names : goal.returns-in-Err-clause-names
returns-in-Err-clause-names g c =
    let names = map string_bytes c.args.scripts.now in
    IfSome_then (g.F.Files.contents c.args.files.now) c.read_scripts.ensures.names
    (λ k h. asks_first (Followed (ScriptsInput k names) (EditsRead names)) (λ all. given (AuditGiven c.args.dict c.args.know all c.args.document.items)) (g.F.Files.asked c.args.files.now) (g.F.Files.asked c.read_scripts.new.files) h)

pub returns-in-Err-clause-told : goal.returns-in-Err-clause-told
returns-in-Err-clause-told g c =
    let names = map string_bytes c.args.scripts.now in
    IfSome_then (g.F.Files.contents c.args.files.now) c.in-Err.ensures.told
    (λ k h. stops_first (Followed (ScriptsInput k names) (EditsRead names)) (λ all. given (AuditGiven c.args.dict c.args.know all c.args.document.items)) (g.F.Files.asked c.args.files.now) (g.F.Files.asked c.read_scripts.new.files)
    (stop_status c.in-Err.stop) (stop_line c.in-Err.stop) h)
