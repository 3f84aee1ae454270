use Rattle.std.proofs.Common.{arith}
use Rattle.lg_gram.proofs.Merged.{is_merged}
use Rattle.lg_gram.proofs.connector.merged.Goals as goal

-- each place has been written
pub returns : goal.returns
returns c = is_merged c.loop-place.letters c.args.xs.now c.args.ys.now (omega arith) (λ k h. c.loop-place.invariant.1 k (omega arith))
