use Rattle.std.proofs.Common.{◌≡◌, ◌≤◌, map, drop}
use Rattle.lg_script.specs.Commands.{command_view}
use Rattle.lg_run.specs.Inputs.{versions}
use Rattle.lg_run.proofs.export.make_edits.Given as goal

-- as many versions are passed as edits were made, and those that the commands make that are left come next
abbrev pub invariant-loop-command : goal.invariant-loop-command
invariant-loop-command l = record {
  few : l.count ≤ l.most;
  left : drop l.count (versions l.initial.view (map command_view l.commands)) ≡ versions l.view (map command_view (drop l.command-index l.commands));
}
