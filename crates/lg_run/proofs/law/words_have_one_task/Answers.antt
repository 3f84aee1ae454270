use Rattle.lg_run.proofs.OneTask.{one_task}
use Rattle.lg_run.proofs.law.words_have_one_task.Goals as goal

pub returns : goal.returns
returns c = one_task
