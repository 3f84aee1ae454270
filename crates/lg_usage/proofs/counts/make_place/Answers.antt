use Rattle.std.proofs.Common.{arith}
use Rattle.lg_usage.proofs.Places.{placed}
use Rattle.lg_usage.proofs.counts.make_place.Goals as goal

-- a new place, and nothing else
pub returns-in_ok-insert-clause-room : goal.returns-in_ok-insert-clause-room
returns-in_ok-insert-clause-room c = placed c.in_ok-key.key.items c.args.counts.now c.insert.new.self
    (rw c.in_ok-key.ensures (grind arith)) c.in_ok-insert.ensures.updates
