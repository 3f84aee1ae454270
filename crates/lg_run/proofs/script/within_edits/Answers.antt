use Rattle.std.proofs.Common.{map, string_bytes}
use Rattle.lg_script.specs.Commands.{script_views}
use Rattle.lg_run.specs.Inputs.{EditsRead, accepted, refused, few, many}
use Rattle.lg_run.specs.Lines.{edits_line}
use Rattle.lg_run.proofs.EditSums.{name_at}
use Rattle.lg_run.proofs.Told.{comes_at_once}
use Rattle.lg_run.proofs.script.within_edits.Goals as goal

-- too many edits
pub returns-in-Some-clause-told : goal.returns-in-Some-clause-told
returns-in-Some-clause-told c =
    let past = rw c.deref.ensures.value at c.in-Some.ensures in
    λ asked. comes_at_once (EditsRead (map string_bytes c.args.names.now) (script_views c.args.scripts.items)) (refused (edits_line c.in-Some.name.now)) (many past.0 c.in-Some.name.now past.1 past.2 past.3) asked

pub returns-in-Some-clause-about : goal.returns-in-Some-clause-about
returns-in-Some-clause-about c = λ asked. name_at (map string_bytes c.args.names.now) c.in-Some.ensures.0 c.in-Some.name.now c.in-Some.ensures.1

-- or not
pub returns-clause-told : goal.returns-clause-told
returns-clause-told c =
    let all = rw c.deref.ensures.value at c.in-None.ensures in
    rw c.of.ensures (λ asked. comes_at_once (EditsRead (map string_bytes c.args.names.now) (script_views c.args.scripts.items)) (accepted (script_views c.args.scripts.items)) (few all) asked)
