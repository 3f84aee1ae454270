use Rattle.std.proofs.Common.{ℕ, List, map, refl, subst}
use Rattle.std.proofs.lemmas.Option.{IfSome_then}
use Rattle.lg_script.specs.Commands.{command_view}
use Rattle.lg_run.specs.Inputs.{FileIs, ScriptReads}
use Rattle.lg_run.specs.Reads.{Tells}
use Rattle.lg_run.specs.Stops.{stop_status, stop_line}
use Rattle.lg_run.proofs.Readings.{asks_none, asks_first, asks_next, stops_first, tells_next}
use Rattle.lg_run.proofs.Dictionaries.{one_file}
use Rattle.lg_run.proofs.script.read_commands.Goals as goal

-- the file, and then its text, which names no further file
pub returns-in-Ok-clause-names : goal.returns-in-Ok-clause-names
returns-in-Ok-clause-names g c =
    let name = c.args.name.now in
    let old = g.F.Files.asked c.args.files.now in
    let new = g.F.Files.asked c.read_file.new.files in
    let bytes = c.in-Ok.bytes.items in
    IfSome_then (g.F.Files.contents c.args.files.now) c.in-Ok.ensures.told
    (λ k h. asks_next (FileIs k name) (ScriptReads name) old new new bytes h (one_file k name) (asks_none (ScriptReads name bytes) new new refl))

pub returns-in-Ok-clause-told : goal.returns-in-Ok-clause-told
returns-in-Ok-clause-told g c =
    let name = c.args.name.now in
    let old = g.F.Files.asked c.args.files.now in
    let new = g.F.Files.asked c.read_file.new.files in
    let says = subst (λ (bytes : List ℕ). Tells (λ commands. map command_view commands) (ScriptReads name bytes) new new c.commands_of.result) c.deref.ensures.value (c.commands_of.ensures.told new) in
    IfSome_then (g.F.Files.contents c.args.files.now) c.in-Ok.ensures.told
    (λ k h. tells_next (FileIs k name) (ScriptReads name) old new new c.in-Ok.bytes.items h (λ commands. map command_view commands) c.commands_of.result says)

-- the file was not had
pub returns-in-Err-clause-names : goal.returns-in-Err-clause-names
returns-in-Err-clause-names g c =
    IfSome_then (g.F.Files.contents c.args.files.now) c.read_file.ensures.names
    (λ k h. asks_first (FileIs k c.args.name.now) (ScriptReads c.args.name.now) (g.F.Files.asked c.args.files.now) (g.F.Files.asked c.read_file.new.files) h)

pub returns-in-Err-clause-told : goal.returns-in-Err-clause-told
returns-in-Err-clause-told g c =
    IfSome_then (g.F.Files.contents c.args.files.now) c.in-Err.ensures.told
    (λ k h. stops_first (FileIs k c.args.name.now) (ScriptReads c.args.name.now) (g.F.Files.asked c.args.files.now) (g.F.Files.asked c.read_file.new.files) (stop_status c.in-Err.stop) (stop_line c.in-Err.stop) h)

-- the text has the name of the file
pub returns-in-Ok-clause-about : goal.returns-in-Ok-clause-about
returns-in-Ok-clause-about g c = c.commands_of.ensures.about (g.F.Files.asked c.read_file.new.files)
