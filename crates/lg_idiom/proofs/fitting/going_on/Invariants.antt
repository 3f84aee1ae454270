use Rattle.std.proofs.Common.{◌≡◌, filter, take}
use Rattle.lg_idiom.specs.Steps.{does_go_on}
use Rattle.lg_idiom.proofs.fitting.going_on.Given as goal

abbrev pub invariant-loop-word : goal.invariant-loop-word
invariant-loop-word l = l.kept.items ≡ filter (does_go_on l.tokens) (take l.word-index l.fn.words)
