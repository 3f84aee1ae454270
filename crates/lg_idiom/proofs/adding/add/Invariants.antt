use Rattle.lg_idiom.specs.Sentences.{HasAdded, rows}
use Rattle.lg_idiom.proofs.adding.add.Given as goal

-- it has added what it adds to the positions so far
abbrev pub invariant-loop-position : goal.invariant-loop-position
invariant-loop-position l = HasAdded l.chain l.position (rows l.fn.positions) (rows l.positions)
