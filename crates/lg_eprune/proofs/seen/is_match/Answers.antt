use Rattle.lg_eprune.proofs.Matches.{match_test}
use Rattle.lg_eprune.proofs.seen.is_match.Goals as goal

pub returns : goal.returns
returns c = match_test c.args.left.now c.args.right.now c.matches.result c.matches.ensures.0 c.matches.ensures.1
