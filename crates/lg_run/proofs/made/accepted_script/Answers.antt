use Rattle.std.proofs.Common.{map, arith}
use Rattle.std.proofs.lemmas.List.{length-map}
use Rattle.lg_script.specs.Commands.{command_view}
use Rattle.lg_run.proofs.made.accepted_script.Goals as goal

-- a script has fewer than 2^32 commands
pub of-requires : goal.of-requires
of-requires c =
    let commands = c.in-Ok.commands.items in
    let bounds = c.scripts_keep_bounds.ensures c.args.text.now (map command_view commands) c.requires.short c.in-Ok.ensures in
    omega (arith, bounds.few, length-map commands command_view)
