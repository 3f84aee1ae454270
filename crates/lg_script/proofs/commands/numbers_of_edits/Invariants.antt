use Rattle.std.proofs.Common.{◌≡◌, ◌+◌, ◌++◌, map, drop}
use Rattle.lg_script.specs.Commands.{command_view}
use Rattle.lg_script.specs.EditNumbers.{edit_numbers}
use Rattle.lg_script.proofs.Numbers.{numbers_from}
use Rattle.lg_script.proofs.commands.numbers_of_edits.Given as goal

abbrev pub invariant-loop-command : goal.invariant-loop-command
invariant-loop-command l =
    (l.number ≡ l.command-index)
    × (l.edits.items ++ numbers_from (1 + l.command-index) (drop l.command-index (map command_view l.commands)) ≡ edit_numbers (map command_view l.commands))
