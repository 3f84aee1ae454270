use Rattle.std.proofs.Common.{◌≡◌, ◌≤◌, List, map, string_bytes, sum, refl, sym, subst, arith}
use Rattle.std.proofs.lemmas.List.{length-map}
use Rattle.std.proofs.lemmas.Option.{IfSome_then}
use Rattle.lg_script.specs.EditNumbers.{edit_counts}
use Rattle.lg_script.specs.declared.command.Command.{Command}
use Rattle.lg_script.specs.Commands.{command_view, script_views}
use Rattle.lg_script.specs.Codes.{AreScripts}
use Rattle.lg_run.specs.Inputs.{ScriptsInput, EditsRead, EDITS}
use Rattle.lg_run.specs.Stops.{stop_status, stop_line}
use Rattle.lg_run.proofs.Answered.{of_each}
use Rattle.lg_run.proofs.Readings.{asks_none, asks_first, asks_next, stops_first, tells_next}
use Rattle.lg_run.proofs.ScriptLists.{one_of_scripts}
use Rattle.lg_run.proofs.script.read_scripts.Goals as goal

-- the scripts, and then nothing
pub returns-in-Ok-clause-names : goal.returns-in-Ok-clause-names
returns-in-Ok-clause-names g c =
    let names = map string_bytes c.args.names.now in
    let old = g.F.Files.asked c.args.files.now in
    let new = g.F.Files.asked c.read_each.new.files in
    let scripts = script_views c.in-Ok.scripts.items in
    IfSome_then (g.F.Files.contents c.args.files.now) c.in-Ok.ensures.told
    (λ k h. asks_next (ScriptsInput k names) (EditsRead names) old new new scripts h (one_of_scripts k c.exactly_one_script.ensures.one names) (asks_none (EditsRead names scripts) new new refl))

pub returns-in-Ok-clause-told : goal.returns-in-Ok-clause-told
returns-in-Ok-clause-told g c =
    let names = map string_bytes c.args.names.now in
    let new = g.F.Files.asked c.read_each.new.files in
    IfSome_then (g.F.Files.contents c.args.files.now) c.in-Ok.ensures.told
    (λ k h. tells_next (ScriptsInput k names) (EditsRead names) (g.F.Files.asked c.args.files.now) new new (script_views c.in-Ok.scripts.items) h script_views c.within_edits.result (c.within_edits.ensures.told new))

pub returns-in-Ok-clause-bounds : goal.returns-in-Ok-clause-bounds
returns-in-Ok-clause-bounds g c =
    let items = c.in-Ok.scripts.items in
    let number = c.in-Ok.ensures.each.0 in
    let longer = length-map items (map command_view) in
    let some = c.requires.some in
    let few = c.requires.few in
    of_each c.within_edits.result (λ all. (all ≡ items) × (sum (edit_counts (script_views all)) ≤ EDITS)) (λ all. AreScripts (script_views all))
    (λ all is. subst (λ (l : List (List Command)). AreScripts (script_views l)) (sym is.0)
    (record { some = omega arith; few = omega arith; edits = subst (λ (l : List (List Command)). sum (edit_counts (script_views l)) ≤ EDITS) is.0 is.1; each = c.in-Ok.ensures.each.1 }))
    c.within_edits.ensures.edits

pub returns-in-Ok-clause-about : goal.returns-in-Ok-clause-about
returns-in-Ok-clause-about g c = c.within_edits.ensures.about (g.F.Files.asked c.read_each.new.files)

-- the scripts were not had
pub returns-in-Err-clause-names : goal.returns-in-Err-clause-names
returns-in-Err-clause-names g c =
    let names = map string_bytes c.args.names.now in
    IfSome_then (g.F.Files.contents c.args.files.now) c.read_each.ensures.names
    (λ k h. asks_first (ScriptsInput k names) (EditsRead names) (g.F.Files.asked c.args.files.now) (g.F.Files.asked c.read_each.new.files) h)

pub returns-in-Err-clause-told : goal.returns-in-Err-clause-told
returns-in-Err-clause-told g c =
    let names = map string_bytes c.args.names.now in
    IfSome_then (g.F.Files.contents c.args.files.now) c.in-Err.ensures.told
    (λ k h. stops_first (ScriptsInput k names) (EditsRead names) (g.F.Files.asked c.args.files.now) (g.F.Files.asked c.read_each.new.files) (stop_status c.in-Err.stop) (stop_line c.in-Err.stop) h)
