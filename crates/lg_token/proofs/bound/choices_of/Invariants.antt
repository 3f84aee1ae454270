use Rattle.std.proofs.Common.{◌≡◌, min, take}
use Rattle.std.specs.List.{sum_by}
use Rattle.lg_token.specs.Bounds.{CHOICES_COUNTED, word_choices}
use Rattle.lg_token.proofs.bound.choices_of.Given as goal

-- the choices of the words so far
abbrev pub invariant-loop-word : goal.invariant-loop-word
invariant-loop-word l = l.sum ≡ min (sum_by (word_choices l.view) (take l.word-index l.word-items)) CHOICES_COUNTED
