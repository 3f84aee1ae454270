use Rattle.std.proofs.Common.{◌≡◌, take}
use Rattle.lg_reach.proofs.formulas.parts_of_words.Given as goal

abbrev pub invariant-loop-word : goal.invariant-loop-word
invariant-loop-word l = l.parts.items ≡ take l.word-index l.words
