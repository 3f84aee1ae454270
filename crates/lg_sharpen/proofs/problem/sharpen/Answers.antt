use Rattle.lg_sharpen.proofs.Pruned.{unsharpened}
use Rattle.lg_sharpen.proofs.problem.sharpen.Goals as goal

pub returns-then-is_small : goal.returns-then-is_small
returns-then-is_small c = unsharpened c.args.nulls c.args.problem c.is_small.ensures
