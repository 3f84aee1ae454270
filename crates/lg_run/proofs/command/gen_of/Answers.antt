use Rattle.std.proofs.Common.{refl}
use Rattle.lg_run.proofs.OneTask.{is_gen_command}
use Rattle.lg_run.proofs.command.gen_of.Goals as goal

-- three numbers in form
pub returns : goal.returns
returns c = is_gen_command _ _ _ _ _ _ _ _ (λ setup. refl) refl c.in_ok-seed.ensures c.in_ok-seed-2.ensures c.in_ok-words.ensures c.in_ok-sentences.ensures
