use Rattle.std.proofs.Common.{◌≡◌, take}
use Rattle.lg_reach.proofs.formulas.copied.Given as goal

abbrev pub invariant-loop-words : goal.invariant-loop-words
invariant-loop-words l = l.copies.items ≡ take l.words-index l.positions
