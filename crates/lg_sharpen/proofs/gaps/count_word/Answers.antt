use Rattle.lg_sharpen.specs.Filling.{rows_in}
use Rattle.lg_sharpen.proofs.Counting.{counts_word}
use Rattle.lg_sharpen.proofs.gaps.count_word.Goals as goal

-- the word has a way from here on
pub returns-then-not-is_stuck : goal.returns-then-not-is_stuck
returns-then-not-is_stuck c =
    let at = c.loop-length in
    counts_word c.args.right (rows_in c.args.least.now) c.args.position c.args.before at.length c.args.counts.now at.counts c.requires at.invariant

pub returns : goal.returns
returns c =
    let at = c.loop-length in
    counts_word c.args.right (rows_in c.args.least.now) c.args.position c.args.before at.length c.args.counts.now at.counts c.requires at.invariant
