use Rattle.std.proofs.Common.{◌≡◌, ◌++◌, drop}
use Rattle.lg_script.specs.EditNumbers.{edit_counts}
use Rattle.lg_script.specs.Commands.{script_views}
use Rattle.lg_session.proofs.run.counts_of.Given as goal

abbrev pub invariant-loop-commands : goal.invariant-loop-commands
invariant-loop-commands l = l.counts.items ++ edit_counts (script_views (drop l.commands-index l.commands-items)) ≡ edit_counts (script_views l.scripts)
