use Rattle.std.proofs.Common.{◌≡◌, ◌==◌, ◌+◌, ◌≤◌, length, take}
use Rattle.std.specs.List.{suffix_len}
use Rattle.lg_gram.specs.Names.{STAR}
use Rattle.lg_gram.proofs.label.without_stars.Given as goal

abbrev pub invariant-loop-n : goal.invariant-loop-n
invariant-loop-n l = (l.n ≤ length l.subs) × (l.n + suffix_len (λ b. b == STAR) l.subs ≡ length l.subs + suffix_len (λ b. b == STAR) (take l.n l.subs))

abbrev pub decreases-loop-n : goal.decreases-loop-n
decreases-loop-n l = l.n
