use Rattle.std.proofs.Common.{ℕ, List, map, Contains}
use Rattle.lg_dict.specs.Lengths.{HasLengths}
use Rattle.lg_dict.proofs.tables.lengths_of.Given as goal

abbrev pub invariant-loop-word : goal.invariant-loop-word
invariant-loop-word l = (word : List ℕ) → Contains (map (λ key. key.now.items) l.yielded) word → HasLengths l.lengths word
