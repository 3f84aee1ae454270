use Rattle.std.proofs.Common.{arith}
use Rattle.std.proofs.lemmas.Grind.{common_steps}
use Rattle.lg_text.proofs.Joined.{line_of-cons}
use Rattle.lg_text.proofs.piece.write_line.Goals as goal

-- the word and what stands behind it are the line
pub returns : goal.returns
returns c = grind (arith, common_steps, line_of-cons)
