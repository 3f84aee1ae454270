use Rattle.std.proofs.Common.{◌≡◌, ℕ, length, min, map}
use Rattle.lg_script.specs.Commands.{command_view}
use Rattle.lg_script.specs.Scripts.{LINES_COUNTED}
use Rattle.lg_script.proofs.Texts.{Leads}
use Rattle.lg_script.proofs.read.read_text.Given as goal

-- what is left gives the rest of the answer, from the line of some number on
abbrev pub invariant-loop-commands : goal.invariant-loop-commands
invariant-loop-commands l = (n : ℕ) × (l.number ≡ min n LINES_COUNTED) × Leads n l.left l.text (map command_view l.commands.items)

abbrev pub decreases-loop-commands : goal.decreases-loop-commands
decreases-loop-commands l = length l.left
