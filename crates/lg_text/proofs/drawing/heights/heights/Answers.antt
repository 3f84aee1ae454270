use Rattle.std.proofs.Common.{arith}
use Rattle.lg_text.proofs.drawing.heights.heights.Goals as goal
use Rattle.lg_text.proofs.Heights.{all_known}

-- all links are shorter than there are positions
pub returns : goal.returns
returns c =
    all_known c.args.links.now c.loop-length.length c.loop-length.heights.items (λ i d below. let short = c.requires.short i d below in let end = c.loop-length-test.false in omega arith) c.loop-length.invariant
