use Rattle.std.proofs.Common.{arith}
use Rattle.std.proofs.lemmas.Grind.{common_steps}
use Rattle.lg_usage.proofs.Printing.{entries_are}
use Rattle.lg_usage.proofs.counts.write_counts.Goals as goal

-- nothing is left, and the entries above 0 are those of the tally
pub returns : goal.returns
returns c =
    let all = entries_are c.args.counts.now.entries c.iter-text-items.ensures.ordered in
    grind (arith, common_steps, all)
