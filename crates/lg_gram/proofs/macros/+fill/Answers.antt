use Rattle.std.proofs.Common.{arith}
use Rattle.std.proofs.lemmas.Grind.{common_steps}
use Rattle.lg_gram.proofs.Filled.{filled_members}
use Rattle.lg_gram.proofs.macros.+fill.Goals as goal

pub fill_members-returns : goal.fill_members-returns
fill_members-returns g t c = grind (arith, common_steps, filled_members (g.M.Macros.formulas c.args.macros.now) c.items-member-items.result.now)
