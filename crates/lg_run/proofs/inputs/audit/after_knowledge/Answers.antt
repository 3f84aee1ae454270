use Rattle.std.proofs.Common.{Option, IfSome, map, string_bytes, subst}
use Rattle.std.proofs.lemmas.Option.{IfSome_then}
use Rattle.lg_base.specs.Contents.{Contents}
use Rattle.lg_run.specs.Inputs.{FileIs, AuditScripts}
use Rattle.lg_run.specs.Reads.{AsksInOrder, Tells, given_in}
use Rattle.lg_run.specs.Stops.{stop_status, stop_line}
use Rattle.lg_run.proofs.Readings.{known_both, asks_first, asks_next, stops_first, tells_next}
use Rattle.lg_run.proofs.Dictionaries.{one_file}
use Rattle.lg_run.proofs.About.{about_first, about_later}
use Rattle.lg_run.proofs.Asking.{asks_then}
use Rattle.lg_run.proofs.inputs.audit.after_knowledge.Goals as goal

-- the first file, and then the others
pub returns-in-Ok-clause-names : goal.returns-in-Ok-clause-names
returns-in-Ok-clause-names g c =
    let known = g.F.Files.contents c.args.files.now in
    let old = g.F.Files.asked c.args.files.now in
    let middle = g.F.Files.asked c.read_file.new.files in
    let new = g.F.Files.asked c.after_document.new.files in
    let asks = subst (λ (o : Option Contents). IfSome o (λ k. AsksInOrder (AuditScripts k c.args.dict c.args.know c.in-Ok.bytes.items (map string_bytes c.args.scripts.now)) middle new)) c.in-Ok.ensures.unchanged c.after_document.ensures.names in
    known_both known c.in-Ok.ensures.told asks
    (λ k h next. asks_next (FileIs k c.args.document.now) (λ bytes. AuditScripts k c.args.dict c.args.know bytes (map string_bytes c.args.scripts.now)) old middle new c.in-Ok.bytes.items h (one_file k c.args.document.now) next)

pub returns-in-Ok-clause-told : goal.returns-in-Ok-clause-told
returns-in-Ok-clause-told g c =
    let known = g.F.Files.contents c.args.files.now in
    let old = g.F.Files.asked c.args.files.now in
    let middle = g.F.Files.asked c.read_file.new.files in
    let new = g.F.Files.asked c.after_document.new.files in
    let says = subst (λ (o : Option Contents). IfSome o (λ k. Tells given_in (AuditScripts k c.args.dict c.args.know c.in-Ok.bytes.items (map string_bytes c.args.scripts.now)) middle new c.after_document.result)) c.in-Ok.ensures.unchanged c.after_document.ensures.told in
    known_both known c.in-Ok.ensures.told says
    (λ k h next. tells_next (FileIs k c.args.document.now) (λ bytes. AuditScripts k c.args.dict c.args.know bytes (map string_bytes c.args.scripts.now)) old middle new c.in-Ok.bytes.items h given_in c.after_document.result next)

-- the first file was not had
pub returns-in-Err-clause-names : goal.returns-in-Err-clause-names
returns-in-Err-clause-names g c =
    IfSome_then (g.F.Files.contents c.args.files.now) c.read_file.ensures.names
    (λ k h. asks_first (FileIs k c.args.document.now) (λ bytes. AuditScripts k c.args.dict c.args.know bytes (map string_bytes c.args.scripts.now)) (g.F.Files.asked c.args.files.now) (g.F.Files.asked c.read_file.new.files) h)

pub returns-in-Err-clause-told : goal.returns-in-Err-clause-told
returns-in-Err-clause-told g c =
    IfSome_then (g.F.Files.contents c.args.files.now) c.in-Err.ensures.told
    (λ k h. stops_first (FileIs k c.args.document.now) (λ bytes. AuditScripts k c.args.dict c.args.know bytes (map string_bytes c.args.scripts.now)) (g.F.Files.asked c.args.files.now) (g.F.Files.asked c.read_file.new.files) (stop_status c.in-Err.stop) (stop_line c.in-Err.stop) h)

-- the name of the first file, or of a later one
pub returns-in-Ok-clause-about : goal.returns-in-Ok-clause-about
returns-in-Ok-clause-about g c = about_later c.args.document.now (map string_bytes c.args.scripts.now) (g.F.Files.asked c.after_document.new.files) c.after_document.result c.after_document.ensures.about

pub returns-in-Err-clause-about : goal.returns-in-Err-clause-about
returns-in-Err-clause-about g c = about_first c.args.document.now (map string_bytes c.args.scripts.now) (g.F.Files.asked c.read_file.new.files) c.in-Err.stop c.in-Err.ensures.about

-- the names of the first, and then of the others
pub returns-in-Ok-clause-asks : goal.returns-in-Ok-clause-asks
returns-in-Ok-clause-asks g c = asks_then (g.F.Files.asked c.args.files.now) (g.F.Files.asked c.read_file.new.files) (g.F.Files.asked c.after_document.new.files) c.read_file.ensures.asks c.after_document.ensures.asks
