use Rattle.std.proofs.Common.{length, take, ◌⊎◌}
use Rattle.lg_rules.specs.Steps.{Adds, GoesOnWithOne, GoesOnWithNone}
use Rattle.lg_rules.proofs.list.choosing.+choose.Given as goal

abbrev pub decreases-choose : goal.decreases-choose
decreases-choose l = length l.rows.now

abbrev pub invariant-loop-disjunct : goal.invariant-loop-disjunct
invariant-loop-disjunct l =
    Adds (λ g. GoesOnWithNone l.chosen l.later l.spare g ⊎ GoesOnWithOne (take l.disjunct-index l.disjunct-items) l.chosen l.later l.spare g) l.fn.out.items l.out.items
