use Rattle.std.proofs.Common.{arith}
use Rattle.std.proofs.lemmas.Grind.{common_steps}
use Rattle.lg_run.proofs.MadeText.{numbers_line}
use Rattle.lg_run.proofs.made.write_line.Goals as goal

-- the word and the numbers behind it are the line
pub returns : goal.returns
returns c = grind (arith, common_steps, numbers_line)
