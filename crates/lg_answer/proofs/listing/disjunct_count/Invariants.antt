use Rattle.std.proofs.Common.{◌≡◌, length, take}
use Rattle.std.specs.List.{sum_by}
use Rattle.lg_answer.proofs.listing.disjunct_count.Given as goal

-- the disjuncts of the positions so far
abbrev pub invariant-loop-position : goal.invariant-loop-position
invariant-loop-position l = l.count ≡ sum_by length (take l.position-index l.position-items)
