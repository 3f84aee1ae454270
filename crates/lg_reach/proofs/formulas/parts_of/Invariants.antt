use Rattle.std.proofs.Common.{◌≡◌, take}
use Rattle.lg_reach.proofs.formulas.parts_of.Given as goal

abbrev pub invariant-loop-words : goal.invariant-loop-words
invariant-loop-words l = l.parts.items ≡ take l.words-index l.positions
