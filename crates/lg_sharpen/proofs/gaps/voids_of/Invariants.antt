use Rattle.lg_sharpen.specs.Filling.{rows_in}
use Rattle.lg_sharpen.proofs.Voids.{VoidsTo}
use Rattle.lg_sharpen.proofs.gaps.voids_of.Given as goal

abbrev pub invariant-loop-word : goal.invariant-loop-word
invariant-loop-word l = VoidsTo l.words (rows_in l.least) l.word l.count l.voids.items
