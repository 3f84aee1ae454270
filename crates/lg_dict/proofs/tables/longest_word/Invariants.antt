use Rattle.std.proofs.Common.{map, Contains}
use Rattle.lg_dict.specs.Dictionary.{IsLongest}
use Rattle.lg_dict.proofs.tables.longest_word.Given as goal

abbrev pub invariant-loop-word : goal.invariant-loop-word
invariant-loop-word l = IsLongest (Contains (map (λ key. key.now.items) l.yielded)) l.longest
