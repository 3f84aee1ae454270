use Rattle.lg_script.proofs.SingleLines.{single_lines}
use Rattle.lg_script.proofs.law.scripts_have_single_lines.Goals as goal

pub returns : goal.returns
returns c = single_lines
