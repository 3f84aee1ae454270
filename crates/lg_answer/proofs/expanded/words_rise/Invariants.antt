use Rattle.std.proofs.Common.{◌≡◌, ℕ, ◌+◌, ◌<◌, get_or, Less}
use Rattle.lg_eprune.specs.Live.{WordTree}
use Rattle.lg_answer.specs.Steps.{word_cmp}
use Rattle.lg_answer.proofs.expanded.words_rise.Given as goal

-- each word so far comes before the next
abbrev pub invariant-loop-i : goal.invariant-loop-i
invariant-loop-i l = (k : ℕ) (d : WordTree) → k + 1 < l.i → word_cmp (get_or l.words k d) (get_or l.words (k + 1) d) ≡ Less
