-- The exit statuses.
use Rattle.std.specs.Prelude.{ℕ}
use Rattle.lg_run.specs.declared.status.Status.{Status}
use Rattle.lg_run.specs.declared.status.Status.TheVariants.{Done, BadInput, Usage, ReadFault, WriteFault, NoMemory}

abbrev pub exit_status : Status → ℕ
exit_status Done = 0
exit_status BadInput = 1
exit_status Usage = 2
exit_status ReadFault = 3
exit_status WriteFault = 4
exit_status NoMemory = 5
