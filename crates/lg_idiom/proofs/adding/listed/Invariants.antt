use Rattle.std.proofs.Common.{◌≡◌, ◌++◌}
use Rattle.std.specs.Vec.Iter.{into_iter_items}
use Rattle.lg_idiom.specs.Sentences.{rows}
use Rattle.lg_idiom.proofs.adding.listed.Given as goal

-- what is left gives the rest
abbrev pub invariant-loop-words : goal.invariant-loop-words
invariant-loop-words l = l.lists.items ++ rows (into_iter_items l.words-iterator) ≡ rows l.fn.positions.items
