use Rattle.std.proofs.Common.{rules, map, [], arith}
use Rattle.std.proofs.lemmas.List.{length-map}
use Rattle.lg_script.specs.Commands.{command_view}
use Rattle.lg_run.proofs.Told.{told_script, read_script_told}
use Rattle.lg_run.proofs.About.{first_name}
use Rattle.lg_run.proofs.script.commands_of.Goals as goal

-- a script has fewer than 2^32 commands
pub of-requires : goal.of-requires
of-requires c =
    let commands = c.in-Ok.commands.items in
    let bounds = c.scripts_keep_bounds.ensures c.args.bytes.now (map command_view commands) c.requires c.in-Ok.ensures in
    omega (arith, bounds.few, length-map commands command_view)

pub returns-in-Ok-of-clause-told : goal.returns-in-Ok-of-clause-told
returns-in-Ok-of-clause-told c = rw c.in-Ok-of.ensures (read_script_told c.args.name.now c.args.bytes.now (map command_view c.in-Ok.commands.items) c.in-Ok.ensures)

pub returns-in-Err-clause-told : goal.returns-in-Err-clause-told
returns-in-Err-clause-told c = told_script c.args.name.now c.args.bytes.now c.in-Err.error (search rules) c.in-Err.ensures

pub returns-in-Err-clause-about : goal.returns-in-Err-clause-about
returns-in-Err-clause-about c = λ asked. (first_name c.args.name.now [], search rules)
