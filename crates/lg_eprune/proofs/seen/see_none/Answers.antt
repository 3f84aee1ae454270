use Rattle.lg_eprune.proofs.Listed.{lists_none}
use Rattle.lg_eprune.proofs.seen.see_none.Goals as goal

pub returns : goal.returns
returns c = lists_none c.args.seen.now
