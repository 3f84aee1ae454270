use Rattle.std.proofs.Common.{ℕ, List, IfSome, IfErr, [], ◌∷◌, map, string_bytes, refl, ap, subst}
use Rattle.std.proofs.lemmas.Option.{IfSome_then}
use Rattle.lg_script.specs.Codes.{commands_of}
use Rattle.lg_script.specs.Commands.{script_views}
use Rattle.lg_run.specs.Inputs.{Followed, ScriptsInput, EditsRead, ExportReads, accepted}
use Rattle.lg_run.specs.Reads.{AsksInOrder, Comes, Tells, TellsStop, IsAbout, given_in}
use Rattle.lg_run.specs.Stops.{stop_status, stop_line}
use Rattle.lg_run.proofs.Readings.{asks_none, asks_first, asks_next, stops_first, tells_next}
use Rattle.lg_run.proofs.ScriptLists.{one_within}
use Rattle.lg_run.proofs.About.{about_second}
use Rattle.lg_run.proofs.inputs.version_of.Goals as goal

-- the script, and then nothing
pub returns-in-Ok-clause-names : goal.returns-in-Ok-clause-names
returns-in-Ok-clause-names g c =
    let script = string_bytes c.args.script.now in
    let names = script ∷ [] in
    let old = g.F.Files.asked c.args.files.now in
    let new = g.F.Files.asked c.read_scripts.new.files in
    let scripts = script_views c.in-Ok.scripts in
    let told = subst (λ (l : List (List ℕ)). IfSome (g.F.Files.contents c.args.files.now) (λ k. Comes (Followed (ScriptsInput k l) (EditsRead l)) old new (accepted scripts))) (ap (map string_bytes) c.from_ref.ensures.value) c.in-Ok.ensures.told in
    IfSome_then (g.F.Files.contents c.args.files.now) told
    (λ k h. asks_next (Followed (ScriptsInput k names) (EditsRead names)) (λ all. ExportReads c.args.dictionary.now script c.args.number c.args.dict.now (commands_of all 0)) old new new scripts h (one_within k c.exactly_one_script.ensures.one names)
    (asks_none (ExportReads c.args.dictionary.now script c.args.number c.args.dict.now (commands_of scripts 0)) new new refl))

pub returns-in-Ok-clause-told : goal.returns-in-Ok-clause-told
returns-in-Ok-clause-told g c =
    let script = string_bytes c.args.script.now in
    let names = script ∷ [] in
    let old = g.F.Files.asked c.args.files.now in
    let new = g.F.Files.asked c.read_scripts.new.files in
    let scripts = script_views c.in-Ok.scripts in
    let told = subst (λ (l : List (List ℕ)). IfSome (g.F.Files.contents c.args.files.now) (λ k. Comes (Followed (ScriptsInput k l) (EditsRead l)) old new (accepted scripts))) (ap (map string_bytes) c.from_ref.ensures.value) c.in-Ok.ensures.told in
    let says = subst (λ (s : List ℕ). Tells given_in (ExportReads c.args.dictionary.now s c.args.number c.args.dict.now (commands_of scripts 0)) new new c.exported.result) c.as_str.ensures.value (c.exported.ensures.told new) in
    IfSome_then (g.F.Files.contents c.args.files.now) told
    (λ k h. tells_next (Followed (ScriptsInput k names) (EditsRead names)) (λ all. ExportReads c.args.dictionary.now script c.args.number c.args.dict.now (commands_of all 0)) old new new scripts h given_in c.exported.result says)

pub returns-in-Ok-clause-about : goal.returns-in-Ok-clause-about
returns-in-Ok-clause-about g c =
    let new = g.F.Files.asked c.read_scripts.new.files in
    subst (λ (s : List ℕ). IfErr c.exported.result (IsAbout (c.args.dictionary.now ∷ s ∷ []) new)) c.as_str.ensures.value (c.exported.ensures.about new)

-- the script was not had
pub returns-in-Err-clause-names : goal.returns-in-Err-clause-names
returns-in-Err-clause-names g c =
    let script = string_bytes c.args.script.now in
    let names = script ∷ [] in
    let old = g.F.Files.asked c.args.files.now in
    let new = g.F.Files.asked c.read_scripts.new.files in
    let asks = subst (λ (l : List (List ℕ)). IfSome (g.F.Files.contents c.args.files.now) (λ k. AsksInOrder (Followed (ScriptsInput k l) (EditsRead l)) old new)) (ap (map string_bytes) c.from_ref.ensures.value) c.read_scripts.ensures.names in
    IfSome_then (g.F.Files.contents c.args.files.now) asks
    (λ k h. asks_first (Followed (ScriptsInput k names) (EditsRead names)) (λ all. ExportReads c.args.dictionary.now script c.args.number c.args.dict.now (commands_of all 0)) old new h)

pub returns-in-Err-clause-told : goal.returns-in-Err-clause-told
returns-in-Err-clause-told g c =
    let script = string_bytes c.args.script.now in
    let names = script ∷ [] in
    let old = g.F.Files.asked c.args.files.now in
    let new = g.F.Files.asked c.read_scripts.new.files in
    let status = stop_status c.in-Err.stop in
    let line = stop_line c.in-Err.stop in
    let told = subst (λ (l : List (List ℕ)). IfSome (g.F.Files.contents c.args.files.now) (λ k. TellsStop (Followed (ScriptsInput k l) (EditsRead l)) old new status line)) (ap (map string_bytes) c.from_ref.ensures.value) c.in-Err.ensures.told in
    IfSome_then (g.F.Files.contents c.args.files.now) told
    (λ k h. stops_first (Followed (ScriptsInput k names) (EditsRead names)) (λ all. ExportReads c.args.dictionary.now script c.args.number c.args.dict.now (commands_of all 0)) old new status line h)

pub returns-in-Err-clause-about : goal.returns-in-Err-clause-about
returns-in-Err-clause-about g c =
    let new = g.F.Files.asked c.read_scripts.new.files in
    about_second c.args.dictionary.now (string_bytes c.args.script.now) new c.in-Err.stop (subst (λ (l : List (List ℕ)). IsAbout l new c.in-Err.stop) (ap (map string_bytes) c.from_ref.ensures.value) c.in-Err.ensures.about)
