use Rattle.std.proofs.Common.{◌≡◌, ◌++◌, map, take}
use Rattle.lg_disj.specs.Places.{leaf_at}
use Rattle.lg_disj.proofs.lists.push_leaves.Given as goal

abbrev pub invariant-loop-place : goal.invariant-loop-place
invariant-loop-place l = l.connectors.items ≡ l.fn.connectors.items ++ map (leaf_at l.leaves) (take l.place-index l.places)
