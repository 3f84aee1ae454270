use Rattle.lg_sharpen.proofs.Away.{SetUpTo}
use Rattle.lg_sharpen.proofs.needs.set_need.Given as goal

abbrev pub invariant-loop-place : goal.invariant-loop-place
invariant-loop-place l = SetUpTo l.need l.fn.sites.items l.sites.items
