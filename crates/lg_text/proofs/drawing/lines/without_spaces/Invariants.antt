use Rattle.std.proofs.Common.{◌≡◌, ◌==◌, ◌+◌, ◌≤◌, length, take}
use Rattle.std.specs.List.{suffix_len}
use Rattle.lg_text.proofs.drawing.lines.without_spaces.Given as goal

abbrev pub invariant-loop-n : goal.invariant-loop-n
invariant-loop-n l = (l.n ≤ length l.line) × (l.n + suffix_len (λ b. b == 32) l.line ≡ length l.line + suffix_len (λ b. b == 32) (take l.n l.line))

abbrev pub decreases-loop-n : goal.decreases-loop-n
decreases-loop-n l = l.n
