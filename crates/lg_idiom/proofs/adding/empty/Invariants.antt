use Rattle.std.proofs.Common.{[]}
use Rattle.lg_idiom.specs.Sentences.{AreAddedTo, rows}
use Rattle.lg_idiom.proofs.adding.empty.Given as goal

-- nothing is added so far
abbrev pub invariant-loop-position : goal.invariant-loop-position
invariant-loop-position l = AreAddedTo [] l._position (rows l.positions.items)
