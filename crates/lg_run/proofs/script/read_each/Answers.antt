use Rattle.std.proofs.Common.{◌≡◌, [], ◌∷◌, ◌++◌, ◌∙◌, List, ℕ, Option, IfSome, length, map, drop, string_bytes, ap, subst, arith}
use Rattle.std.proofs.lemmas.List.{map-append, length-append, drop_all}
use Rattle.std.proofs.lemmas.Option.{IfSome_then}
use Rattle.lg_base.specs.Contents.{Contents}
use Rattle.lg_script.specs.Commands.{command_view, script_views}
use Rattle.lg_run.specs.Inputs.{ScriptInput, accepted}
use Rattle.lg_run.specs.Reads.{AsksInOrder, Comes, TellsStop}
use Rattle.lg_run.specs.Stops.{stop_status, stop_line}
use Rattle.lg_run.proofs.Asking.{asks_then}
use Rattle.lg_run.proofs.Readings.{known_both}
use Rattle.lg_run.proofs.ScriptLists.{ComesOn, comes_on, comes_to_stop, comes_to_end, asks_one, asks_so_far, next_name, is_one_name, each_more}
use Rattle.lg_run.proofs.About.{about_one}
use Rattle.lg_run.proofs.script.read_each.Goals as goal

-- one more script was read
pub loop-name-preserved : goal.loop-name-preserved
loop-name-preserved g c =
    let known = g.F.Files.contents c.args.files.now in
    let w = c.loop-name.invariant in
    let old = g.F.Files.asked c.args.files.now in
    let now = g.F.Files.asked c.loop-name.files in
    let next = g.F.Files.asked c.read_commands.new.files in
    let names = map string_bytes c.args.names.now in
    let done = script_views c.loop-name.scripts.items in
    let name = string_bytes c.name-item.result in
    let commands = map command_view c.in-Ok.commands in
    let left = next_name string_bytes c.args.names.now c.loop-name.name-index c.name-item.result (omega arith) c.name-item.is in
    let told = subst (λ (o : Option Contents). IfSome o (λ k. Comes (ScriptInput k name) now next (accepted commands))) w.same (rw c.deref.ensures at c.in-Ok.ensures.told) in
    let all : script_views c.push.new.self.items ≡ done ++ commands ∷ [] = ap script_views c.in-Ok-push.ensures.items ∙ map-append (map command_view) c.loop-name.scripts.items (c.in-Ok.commands ∷ []) in
    record {
      same = c.in-Ok.ensures.unchanged ∙ w.same;
      asks = asks_then old now next w.asks c.in-Ok.ensures.asks;
      on = rw all (known_both known w.on told (λ k on h. comes_on k names done old now next name _ commands (subst (λ (l : List (List ℕ)). ComesOn k names done l old now) left on) h));
      number = omega (arith, w.number, ap length c.in-Ok-push.ensures.items, length-append c.loop-name.scripts.items (c.in-Ok.commands ∷ []));
      each = rw all (each_more done commands w.each c.in-Ok.ensures.bounds);
      later = omega (arith, w.later, c.in-Ok.ensures.cause.later);
    }

-- there is no memory for it
pub returns-in_default-clause-names : goal.returns-in_default-clause-names
returns-in_default-clause-names g c =
    let known = g.F.Files.contents c.args.files.now in
    let w = c.loop-name.invariant in
    let old = g.F.Files.asked c.args.files.now in
    let now = g.F.Files.asked c.loop-name.files in
    let next = g.F.Files.asked c.read_commands.new.files in
    let names = map string_bytes c.args.names.now in
    let done = script_views c.loop-name.scripts.items in
    let name = string_bytes c.name-item.result in
    let left = next_name string_bytes c.args.names.now c.loop-name.name-index c.name-item.result (omega arith) c.name-item.is in
    let asks = subst (λ (o : Option Contents). IfSome o (λ k. AsksInOrder (ScriptInput k name) now next)) w.same (rw c.deref.ensures at c.in-Ok.ensures.names) in
    known_both known w.on asks (λ k on h. asks_one k names done old now next c.exactly_one_script.ensures.one c.exactly_one_script.ensures.some name _ (subst (λ (l : List (List ℕ)). ComesOn k names done l old now) left on) h)

-- or it was not had
pub returns-in-Err-clause-names : goal.returns-in-Err-clause-names
returns-in-Err-clause-names g c =
    let known = g.F.Files.contents c.args.files.now in
    let w = c.loop-name.invariant in
    let old = g.F.Files.asked c.args.files.now in
    let now = g.F.Files.asked c.loop-name.files in
    let next = g.F.Files.asked c.read_commands.new.files in
    let names = map string_bytes c.args.names.now in
    let done = script_views c.loop-name.scripts.items in
    let name = string_bytes c.name-item.result in
    let left = next_name string_bytes c.args.names.now c.loop-name.name-index c.name-item.result (omega arith) c.name-item.is in
    let asks = subst (λ (o : Option Contents). IfSome o (λ k. AsksInOrder (ScriptInput k name) now next)) w.same (rw c.deref.ensures at c.in-Err.ensures.names) in
    known_both known w.on asks (λ k on h. asks_one k names done old now next c.exactly_one_script.ensures.one c.exactly_one_script.ensures.some name _ (subst (λ (l : List (List ℕ)). ComesOn k names done l old now) left on) h)

pub returns-in-Err-clause-told : goal.returns-in-Err-clause-told
returns-in-Err-clause-told g c =
    let known = g.F.Files.contents c.args.files.now in
    let w = c.loop-name.invariant in
    let old = g.F.Files.asked c.args.files.now in
    let now = g.F.Files.asked c.loop-name.files in
    let next = g.F.Files.asked c.read_commands.new.files in
    let names = map string_bytes c.args.names.now in
    let done = script_views c.loop-name.scripts.items in
    let name = string_bytes c.name-item.result in
    let status = stop_status c.in-Err.stop in
    let line = stop_line c.in-Err.stop in
    let left = next_name string_bytes c.args.names.now c.loop-name.name-index c.name-item.result (omega arith) c.name-item.is in
    let told = subst (λ (o : Option Contents). IfSome o (λ k. TellsStop (ScriptInput k name) now next status line)) w.same (rw c.deref.ensures at c.in-Err.ensures.told) in
    known_both known w.on told (λ k on h. comes_to_stop k names done old now next name _ status line (subst (λ (l : List (List ℕ)). ComesOn k names done l old now) left on) h)

pub returns-in-Err-clause-about : goal.returns-in-Err-clause-about
returns-in-Err-clause-about g c =
    about_one (map string_bytes c.args.names.now) (g.F.Files.asked c.read_commands.new.files) (string_bytes c.name-item.result) c.in-Err.stop
    (is_one_name string_bytes c.args.names.now c.loop-name.name-index c.name-item.result (omega arith) c.name-item.is) (rw c.deref.ensures at c.in-Err.ensures.about)

-- all scripts were read
pub returns-clause-names : goal.returns-clause-names
returns-clause-names g c =
    IfSome_then (g.F.Files.contents c.args.files.now) c.loop-name.invariant.on
    (λ k on. asks_so_far k (map string_bytes c.args.names.now) (script_views c.loop-name.scripts.items) (g.F.Files.asked c.args.files.now) (g.F.Files.asked c.loop-name.files) c.exactly_one_script.ensures.one c.exactly_one_script.ensures.some _ on)

pub returns-clause-told : goal.returns-clause-told
returns-clause-told g c =
    let names = map string_bytes c.args.names.now in
    let done = script_views c.loop-name.scripts.items in
    let old = g.F.Files.asked c.args.files.now in
    let now = g.F.Files.asked c.loop-name.files in
    let none : map string_bytes (drop c.loop-name.name-index c.args.names.now) ≡ [] = ap (map string_bytes) (drop_all c.loop-name.name-index c.args.names.now (omega arith)) in
    IfSome_then (g.F.Files.contents c.args.files.now) c.loop-name.invariant.on
    (λ k on. comes_to_end k names done old now (subst (λ (l : List (List ℕ)). ComesOn k names done l old now) none on))
