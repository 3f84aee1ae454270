use Rattle.lg_eprune.proofs.Listed.{nothing_seen}
use Rattle.lg_eprune.proofs.seen.Seen.new.Goals as goal

pub returns : goal.returns
returns c = nothing_seen c.in_ok-rows.rows.items c.in_ok-rows.ensures.none
