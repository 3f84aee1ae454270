use Rattle.std.proofs.Common.{take}
use Rattle.lg_disj.specs.Lists.{AreLists, lists_in}
use Rattle.lg_disj.specs.Made.{AreMade}
use Rattle.lg_disj.specs.Places.{listed}
use Rattle.lg_disj.proofs.outlining.lines_of.Given as goal

abbrev pub invariant-loop-number : goal.invariant-loop-number
invariant-loop-number l =
    AreLists l.lefts × AreLists l.rights × AreMade l.leaves (lists_in l.lefts) (lists_in l.rights) (take l.number (listed l.kept.choices)) l.lines.items
