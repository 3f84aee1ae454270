use Rattle.std.proofs.Common.{◌≡◌, ℕ, map, take, get_or}
use Rattle.lg_disj.proofs.ranks.ranks_at.Given as goal

abbrev pub invariant-loop-place : goal.invariant-loop-place
invariant-loop-place l = l.ranked.items ≡ map (λ (n : ℕ). get_or l.ranks n 0) (take l.place-index l.places)
